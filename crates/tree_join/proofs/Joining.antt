-- Nodes in order, and the sums of all ends' counts, are the tree of the entries.
use Rattle.std.proofs.Common.{◌≡◌, ℕ, zero, suc, ◌+◌, ◌<◌, ◌≤◌, ◌≢◌, ◌==◌, ◌&&◌, nat_lt, not, inl, inr, Bool, true, false, cond, List, [], ◌∷◌, length, get_or, map, filter, sum_by, None, All, refl, sym, ap, ap₂, subst, ◌∙◌, arith, true≢false}
use Rattle.std.specs.List.{flat_map}
use Rattle.std.proofs.lemmas.Bool.{cases_eq, eq-eqb, ne_eqb, lt-ltb}
use Rattle.std.proofs.lemmas.List.Concat.{length-flat_map}
use Rattle.std.proofs.lemmas.List.Elements.{All-nil, All-append, All-cons, All-head, All-tail, All-map, All-weaker}
use Rattle.std.proofs.lemmas.List.Sums.{sum_by-append, sum_by-cons}
use Rattle.scope_types.specs.declared.path.Entry.{Entry}
use Rattle.scope_types.specs.Limits.{most_samples, most_scopes_in_all}
use Rattle.tree_types.specs.declared.content.Node.{Node}
use Rattle.tree_types.specs.declared.counted_tree.NodeCount.{NodeCount}
use Rattle.tree_types.specs.Nodes.{no_parent}
use Rattle.tree_types.specs.Paths.{Path}
use Rattle.tree_types.specs.PathsOf.{tree_paths}
use Rattle.tree_types.specs.Tree.{CountedTree, IsTree, count_at, counts_in}
use Rattle.tree_types.proofs.PathSteps.{as_many_paths}
use Rattle.path_trie.specs.declared.trie.PathEnd.{PathEnd}
use Rattle.path_trie.specs.Trie.{IsIndex, path_at, same_path, counted_entry, trie_nodes, nth_path, count_of, samples_of, entries_with_path}
use Rattle.path_trie.specs.private.Linked.{linked_node, Rooted}
use Rattle.path_trie.proofs.Places.{path_none, not_empty, path_itself, path_false}
use Rattle.tree_join.specs.Join.{nodes_of_all}
use Rattle.tree_join.specs.declared.walker.Walker.{Walker}
use Rattle.tree_join.specs.private.Result.{IsTreeOf}
use Rattle.tree_join.specs.private.Sums.{counts_some, count_of_end, counts_of, all_counts, AreSums, HasIndices}
use Rattle.tree_join.specs.private.Walk.{number_given, path_or_none, nodes_in, walked_entries, head_node, IsWalker, Walking}
use Rattle.tree_join.proofs.Ends.{Numbered, number_is, done_is, order_is, in_order, rooted_order}
use Rattle.tree_join.proofs.Paths.{paths_several}
use Rattle.tree_join.proofs.Steps.{order_few}
use Rattle.tree_join.proofs.Sums.{owns, count_cons, count_append}
use Rattle.tree_join.proofs.Walking.{inner_at}

abbrev end_count : PathEnd → ℕ
end_count e = e.count

abbrev entry_count : Entry → ℕ
entry_count e = e.count

abbrev node_count : NodeCount → ℕ
node_count c = c.count

filter_passes : (P : PathEnd → Type 0) (t : PathEnd → Bool) (xs : List PathEnd) → All P xs → All (λ x. P x × (t x ≡ true)) (filter t xs)
filter_passes P t [] all = All-nil (λ x. P x × (t x ≡ true))
filter_passes P t (x ∷ xs) all =
    let rest = filter_passes P t xs (All-tail P x xs all) in
    elim (t x) as (λ b. t x ≡ b → All (λ x. P x × (t x ≡ true)) (cond b (x ∷ filter t xs) (filter t xs))) [
      | true ↦ λ e. All-cons (λ x. P x × (t x ≡ true)) x (filter t xs) (All-head P x xs all, e) rest
      | false ↦ λ e. rest
    ] refl

some_is : (e : PathEnd) → counts_some e ≡ true → (e.node ≢ no_parent) × (0 < e.count)
some_is e on =
    elim (cases_eq e.node no_parent) [
      | inl none ↦ absurd (true≢false (sym on ∙ ap (λ b. not b && nat_lt 0 e.count) (eq-eqb e.node no_parent none)))
      | inr inner ↦ (inner, above e.count (sym (ap (λ b. not b && nat_lt 0 e.count) (ne_eqb e.node no_parent inner)) ∙ on))
    ]
  where
    above : (n : ℕ) → nat_lt 0 n ≡ true → 0 < n
    above zero e = absurd cc
    above (suc n) e = omega arith

-- ---- how many samples there are

pub few_counts : (numbers : List ℕ) (ends : List PathEnd) → counts_in (counts_of numbers ends) ≤ sum_by end_count ends
few_counts numbers [] = omega arith
few_counts numbers (e ∷ ends) =
    let rest = few_counts numbers ends in
    let all = sum_by-cons end_count e ends in
    elim (counts_some e) as (λ b. counts_in (map (count_of_end numbers) (cond b (e ∷ filter counts_some ends) (filter counts_some ends))) ≤ sum_by end_count (e ∷ ends)) [
      | true ↦ (let own = sum_by-cons node_count (count_of_end numbers e) (counts_of numbers ends) in omega arith)
      | false ↦ omega arith
    ]

pub samples_are : (paths : List Path) (ends : List PathEnd) → samples_of (map (counted_entry paths) ends) ≡ sum_by end_count ends
samples_are paths [] = refl
samples_are paths (e ∷ ends) = sum_by-cons entry_count (counted_entry paths e) (map (counted_entry paths) ends) ∙ ap (λ (n : ℕ). e.count + n) (samples_are paths ends) ∙ sym (sum_by-cons end_count e ends)

-- ---- the counts of one trie's ends

module _ (order nodes : List Node) (numbers : List ℕ) (ends : List PathEnd) (rooted : Rooted order) (numbered : Numbered order nodes numbers) where
  abbrev own_paths : List Path
  own_paths = tree_paths nodes

  abbrev done : List Path
  done = tree_paths order

  module _ (node column : ℕ) (lt : node < length order) where
    abbrev q : Path
    q = path_or_none done node

    q_some : q ≡ [] → ⊥
    q_some e = (let r = rooted in not_empty (path_at done (linked_node order node).parent) (linked_node order node).scope (sym (r.below node lt) ∙ e))

    number_same : (m : ℕ) → m < length nodes → same_path q (path_or_none own_paths m) ≡ (number_given numbers m == node)
    number_same m m_lt =
        let k : ℕ = number_given numbers m in
        let is = numbered m m_lt in
        elim (cases_eq k node) [
          | inl same ↦ ap (same_path q) (sym is.1 ∙ ap (path_or_none done) same) ∙ path_itself q ∙ sym (eq-eqb k node same)
          | inr apart ↦
              path_false q (path_or_none own_paths m) (λ e. (let r = rooted in apart (sym (r.once node k lt is.0 (e ∙ sym is.1)))))
              ∙ sym (ne_eqb k node apart)
        ]

    and_swap : (a b : Bool) → (a && b) ≡ (b && a)
    and_swap true true = refl
    and_swap true false = refl
    and_swap false true = refl
    and_swap false false = refl

    and_none : (a : Bool) → (a && false) ≡ false
    and_none true = refl
    and_none false = refl

    if_some : (n : ℕ) (b : Bool) → cond (nat_lt 0 n) (cond b n 0) 0 ≡ cond b n 0
    if_some zero true = refl
    if_some zero false = refl
    if_some (suc n) b = ap (λ t. cond t (cond b (suc n) 0) 0) (lt-ltb 0 (suc n) (omega arith))

    abbrev test : Entry → Bool
    test x = (x.column == column) && same_path q x.path

    one_end : (e : PathEnd) → IsIndex e.node (length nodes) → cond (counts_some e) (cond (owns node column (count_of_end numbers e)) e.count 0) 0 ≡ cond (test (counted_entry own_paths e)) e.count 0
    one_end e index =
        elim (cases_eq e.node no_parent) [
          | inl none ↦
              ap (λ b. cond (not b && nat_lt 0 e.count) (cond (owns node column (count_of_end numbers e)) e.count 0) 0) (eq-eqb e.node no_parent none)
              ∙ sym (ap (λ b. cond b e.count 0) (ap (λ (p : Path). (e.column == column) && same_path q p) (path_none own_paths e.node none) ∙ ap (λ b. (e.column == column) && b) (path_false q [] q_some) ∙ and_none (e.column == column)))
          | inr inner ↦
              ap (λ b. cond (not b && nat_lt 0 e.count) (cond (owns node column (count_of_end numbers e)) e.count 0) 0) (ne_eqb e.node no_parent inner)
              ∙ if_some e.count (owns node column (count_of_end numbers e))
              ∙ ap (λ b. cond b e.count 0) (and_swap (number_given numbers e.node == node) (e.column == column) ∙ ap (λ b. (e.column == column) && b) (sym (number_same e.node (index inner))) ∙ ap (λ (p : Path). (e.column == column) && same_path q p) (sym (inner_at own_paths e.node inner)))
        ]

    first_count : (e : PathEnd) (rest : List PathEnd) → count_at (counts_of numbers (e ∷ rest)) node column ≡ cond (counts_some e) (cond (owns node column (count_of_end numbers e)) e.count 0) 0 + count_at (counts_of numbers rest) node column
    first_count e rest =
        elim (counts_some e) as (λ b. count_at (map (count_of_end numbers) (cond b (e ∷ filter counts_some rest) (filter counts_some rest))) node column ≡ cond b (cond (owns node column (count_of_end numbers e)) e.count 0) 0 + count_at (counts_of numbers rest) node column) [
          | true ↦ count_cons (count_of_end numbers e) (counts_of numbers rest) node column
          | false ↦ omega arith
        ]

    first_entry : (x : Entry) (rest : List Entry) → count_of (x ∷ rest) column q ≡ cond (test x) x.count 0 + count_of rest column q
    first_entry x rest =
        elim (test x) as (λ b. samples_of (cond b (x ∷ entries_with_path rest column q) (entries_with_path rest column q)) ≡ cond b x.count 0 + count_of rest column q) [
          | true ↦ sum_by-cons entry_count x (entries_with_path rest column q)
          | false ↦ omega arith
        ]

    counts_same : (xs : List PathEnd) → All (λ e. IsIndex e.node (length nodes)) xs → count_at (counts_of numbers xs) node column ≡ count_of (map (counted_entry own_paths) xs) column q
    counts_same [] all = refl
    counts_same (e ∷ xs) all =
        let P : PathEnd → Type 0 = λ e. IsIndex e.node (length nodes) in
        first_count e xs ∙ ap₂ (λ (a b : ℕ). a + b) (one_end e (All-head P e xs all)) (counts_same xs (All-tail P e xs all))
        ∙ sym (first_entry (counted_entry own_paths e) (map (counted_entry own_paths) xs))

  pub counts_all : (P : NodeCount → Type 0) → All (λ e. IsIndex e.node (length nodes)) ends → ((e : PathEnd) → IsIndex e.node (length nodes) → counts_some e ≡ true → P (count_of_end numbers e)) → All P (counts_of numbers ends)
  counts_all P indices holds =
      All-map P (count_of_end numbers) (filter counts_some ends)
      (All-weaker (λ e. IsIndex e.node (length nodes) × (counts_some e ≡ true)) (λ e. P (count_of_end numbers e)) (λ e both. holds e both.0 both.1) (filter counts_some ends)
      (filter_passes (λ e. IsIndex e.node (length nodes)) counts_some ends indices))

-- ---- all tries

flat_all : {X Y : Type 0} (P : Y → Type 0) (f : X → List Y) (xs : List X) → All (λ x. All P (f x)) xs → All P (flat_map f xs)
flat_all P f [] each = All-nil P
flat_all P f (x ∷ xs) each = All-append P (f x) (flat_map f xs) (All-head (λ y. All P (f y)) x xs each) (flat_all P f xs (All-tail (λ y. All P (f y)) x xs each))

samples_few : (walkers : List Walker) → sum_by samples_of (map walked_entries walkers) ≤ most_samples → counts_in (all_counts walkers) ≤ most_samples
samples_few walkers few = (let le = less walkers in omega arith)
  where
    less : (ws : List Walker) → counts_in (all_counts ws) ≤ sum_by samples_of (map walked_entries ws)
    less [] = omega arith
    less (w ∷ ws) =
        let own : List NodeCount = counts_of w.numbers.items w.ends.now in
        let rest = less ws in
        let parts = sum_by-append node_count own (all_counts ws) in
        let first = few_counts w.numbers.items w.ends.now in
        let samples = samples_are (tree_paths (nodes_in w)) w.ends.now in
        let all = sum_by-cons samples_of (walked_entries w) (map walked_entries ws) in
        omega arith

pub begin : (walkers : List Walker) → All (IsWalker []) walkers → sum_by (λ es. length (trie_nodes es)) (map walked_entries walkers) ≤ most_scopes_in_all → Walking (map walked_entries walkers) walkers []
begin walkers each few = record {
  parts_are = refl;
  each = each;
  ascend = λ i j d below lt. (let none = as_many_paths [] in absurd (omega arith));
  before = λ i lt. absurd (omega arith);
  among = λ i lt. absurd (omega arith);
  few = subst (λ (n : ℕ). n ≤ most_scopes_in_all) (sym (length-flat_map trie_nodes (map walked_entries walkers))) few;
}

module _ (parts : List (List Entry)) (walkers : List Walker) (order : List Node) (is : Walking parts walkers order) where
  pub few_samples : sum_by samples_of parts ≤ most_samples → counts_in (all_counts walkers) ≤ most_samples
  few_samples few = samples_few walkers (subst (λ (ps : List (List Entry)). sum_by samples_of ps ≤ most_samples) (sym is.parts_are) few)

  pub have_places : All HasIndices walkers
  have_places i d lt =
      let own = is.each i d lt in
      subst (λ (n : ℕ). All (λ e. IsIndex e.node n) (get_or walkers i d).ends.now) (sym own.walks.long) own.ends_in

  module _ (ended : All (λ w. head_node w ≡ None) walkers) (sums : List NodeCount) (s : AreSums (all_counts walkers) sums) where
    rooted : Rooted order
    rooted = rooted_order parts walkers order is

    one_numbered : (i : ℕ) (d : Walker) → i < length walkers → Numbered order (nodes_in (get_or walkers i d)) (get_or walkers i d).numbers.items
    one_numbered i d lt = number_is order (get_or walkers i d) (is.each i d lt) (ended i d lt)

    module _ (node column : ℕ) (lt : node < length order) where
      abbrev q_at : Path
      q_at = path_or_none (tree_paths order) node

      abbrev Same : Walker → Type 0
      Same w = count_at (counts_of w.numbers.items w.ends.now) node column ≡ count_of (walked_entries w) column q_at

      each_same : All Same walkers
      each_same i d i_lt =
          let w : Walker = get_or walkers i d in
          let own = is.each i d i_lt in
          counts_same order (nodes_in w) w.numbers.items w.ends.now rooted (one_numbered i d i_lt) node column lt w.ends.now own.ends_in

      all_same : (ws : List Walker) → All Same ws → count_at (all_counts ws) node column ≡ sum_by (λ es. count_of es column q_at) (map walked_entries ws)
      all_same [] all = refl
      all_same (w ∷ ws) all =
          count_append (counts_of w.numbers.items w.ends.now) (all_counts ws) node column ∙ ap₂ (λ (a b : ℕ). a + b) (All-head Same w ws all) (all_same ws (All-tail Same w ws all))
          ∙ sym (sum_by-cons (λ es. count_of es column q_at) (walked_entries w) (map walked_entries ws))

      counts_are : count_at sums node column ≡ sum_by (λ es. count_of es column (nth_path (nodes_of_all parts) node)) parts
      counts_are =
          s.same node column ∙ all_same walkers each_same
          ∙ ap (sum_by (λ es. count_of es column q_at)) is.parts_are
          ∙ ap (λ (ps : List Path). sum_by (λ es. count_of es column (nth_path ps node)) parts) (done_is parts walkers order is ended)

    counts_hold : (P : NodeCount → Type 0) → ((w : Walker) (e : PathEnd) → Numbered order (nodes_in w) w.numbers.items → IsIndex e.node (length (nodes_in w)) → counts_some e ≡ true → P (count_of_end w.numbers.items e)) → All P (all_counts walkers)
    counts_hold P holds =
        flat_all P (λ w. counts_of w.numbers.items w.ends.now) walkers
        (λ i d lt. counts_all order (nodes_in (get_or walkers i d)) (get_or walkers i d).numbers.items (get_or walkers i d).ends.now rooted (one_numbered i d lt) P (is.each i d lt).ends_in
        (λ e index on. holds (get_or walkers i d) e (one_numbered i d lt) index on))

    module _ (columns : ℕ) (below : All (λ es. All (λ (e : Entry). 0 < e.count → e.column < columns) es) parts) where
      from_entries : (paths : List Path) (xs : List PathEnd) → All (λ (e : Entry). 0 < e.count → e.column < columns) (map (counted_entry paths) xs) → All (λ (e : PathEnd). 0 < e.count → e.column < columns) xs
      from_entries paths [] all = All-nil (λ e. 0 < e.count → e.column < columns)
      from_entries paths (x ∷ xs) all =
          let P : Entry → Type 0 = λ e. 0 < e.count → e.column < columns in
          All-cons (λ e. 0 < e.count → e.column < columns) x xs (All-head P (counted_entry paths x) (map (counted_entry paths) xs) all)
          (from_entries paths xs (All-tail P (counted_entry paths x) (map (counted_entry paths) xs) all))

      of_walkers : (ws : List Walker) → All (λ es. All (λ (e : Entry). 0 < e.count → e.column < columns) es) (map walked_entries ws) → All (λ w. All (λ (c : NodeCount). c.column < columns) (counts_of w.numbers.items w.ends.now)) ws
      of_walkers [] all = All-nil (λ w. All (λ (c : NodeCount). c.column < columns) (counts_of w.numbers.items w.ends.now))
      of_walkers (w ∷ ws) all =
          let P : List Entry → Type 0 = λ es. All (λ (e : Entry). 0 < e.count → e.column < columns) es in
          let own = from_entries (tree_paths (nodes_in w)) w.ends.now (All-head P (walked_entries w) (map walked_entries ws) all) in
          All-cons (λ w. All (λ (c : NodeCount). c.column < columns) (counts_of w.numbers.items w.ends.now)) w ws
          (All-map (λ c. c.column < columns) (count_of_end w.numbers.items) (filter counts_some w.ends.now)
          (All-weaker (λ e. (0 < e.count → e.column < columns) × (counts_some e ≡ true)) (λ e. e.column < columns) (λ e both. both.0 (some_is e both.1).1) (filter counts_some w.ends.now)
          (filter_passes (λ e. 0 < e.count → e.column < columns) counts_some w.ends.now own)))
          (of_walkers ws (All-tail P (walked_entries w) (map walked_entries ws) all))

      abbrev pub joined_tree : CountedTree
      joined_tree = record { columns = columns; nodes = order; counts = sums }

      pub tree_is : IsTree joined_tree
      tree_is = record {
        few = (let few = order_few parts walkers order is in omega arith);
        preorder = in_order parts walkers order is;
        nodes = s.nodes (length order) (counts_hold (λ c. c.node < length order) (λ w e numbered index on. (numbered e.node (index (some_is e on).0)).0));
        columns = s.columns columns (flat_all (λ c. c.column < columns) (λ w. counts_of w.numbers.items w.ends.now) walkers (of_walkers walkers (subst (All (λ es. All (λ (e : Entry). 0 < e.count → e.column < columns) es)) (sym is.parts_are) below)));
        some = s.some (counts_hold (λ c. 0 < c.count) (λ w e numbered index on. (some_is e on).1));
        ascend = s.ascend;
      }

      pub tree_made : IsTreeOf parts columns joined_tree
      tree_made =
          let nodes = order_is parts walkers order is ended in
          record {
            columns_are = refl;
            nodes = nodes;
            counts = counts_are;
            few = tree_is.few;
            paths = paths_several parts columns joined_tree tree_is refl nodes counts_are;
          }

pub tree_from : (parts : List (List Entry)) (columns : ℕ) (made tree : CountedTree) → tree ≡ made → IsTreeOf parts columns made → IsTreeOf parts columns tree
tree_from parts columns made tree is of = subst (IsTreeOf parts columns) (sym is) of
