-- The walks' end: the nodes in order are those of either tree, and the counts those of both.
use Rattle.std.proofs.Common.{◌≡◌, ℕ, ◌+◌, ◌-◌, ◌<◌, ◌≤◌, ◌≢◌, ◌==◌, ◌&&◌, inl, inr, Bool, true, false, cond, List, [], ◌∷◌, ◌++◌, length, get_or, map, filter, sum_by, All, AllPairs, Contains, Less, refl, sym, ap, ap₂, subst, ◌∙◌, arith, true≢false, length-append}
use Rattle.std.specs.List.Sorted.{IsPermutation, IsStrictlySortedBy}
use Rattle.std.proofs.Math.ListN.{get_or-append}
use Rattle.std.proofs.lemmas.Bool.{cases_eq, cases_lt, eq-eqb, ne_eqb}
use Rattle.std.proofs.lemmas.List.{get_or_default, get_or-append_right}
use Rattle.std.proofs.lemmas.List.Elements.{All-append, All-head, All-map, All-tail, filter-append}
use Rattle.std.proofs.lemmas.List.Sorted.{sum_by-IsPermutation}
use Rattle.std.proofs.lemmas.List.Sums.{sum_by-append, sum_by-cons}
use Rattle.std.proofs.lemmas.Map.Keys.{sorted_from_all_adjacent}
use Rattle.scope_types.specs.Order.{path_order}
use Rattle.scope_types.proofs.Orders.{path_order_total, path_order_tells}
use Rattle.tree_types.specs.Ascending.{ascending}
use Rattle.tree_types.specs.declared.content.Node.{Node}
use Rattle.tree_types.specs.declared.counted_tree.NodeCount.{NodeCount}
use Rattle.tree_types.specs.Nodes.{no_parent}
use Rattle.tree_types.specs.Paths.{Path}
use Rattle.tree_types.specs.PathsOf.{tree_paths}
use Rattle.tree_types.specs.Tree.{CountedTree, IsPreorder, IsTree, count_at, counts_in}
use Rattle.tree_types.proofs.PathSteps.{as_many_paths}
use Rattle.tree_types.proofs.Sorting.{bool_same, same_ascending, ascending_of_sorted}
use Rattle.tree_types.proofs.TreeLaws.{numbers_tell}
use Rattle.path_trie.specs.Trie.{has_node, same_path}
use Rattle.path_trie.specs.private.Linked.{linked_node, no_node}
use Rattle.path_trie.proofs.Places.{has_at, path_false, path_itself}
use Rattle.tree_join.specs.private.Sums.{AreSums}
use Rattle.tree_join.specs.private.Walk.{number_given, path_or_none}
use Rattle.tree_join.proofs.Sums.{count_cons}
use Rattle.tree_join.proofs.Walking.{at_index, has_from}
use Rattle.live_merge.specs.Sum.{CanBeAdded, IsSum}
use Rattle.live_merge.specs.private.Adding.{Walking, both_counts, count_with}
use Rattle.live_merge.proofs.Adding.{order_few}

-- ---- the nodes

module _ (a b : List Node) (left right : List ℕ) (order : List Node) (is : Walking a b left right order) where
  pub in_order : IsPreorder order
  in_order = record {
    parents = λ i d lt inner.
        let at : get_or order i d ≡ linked_node order i = get_or_default order i d no_node lt in
        subst (λ (n : Node). n.parent < i) (sym at) (is.before i lt (subst (λ (n : Node). n.parent ≢ no_parent) at inner));
    ascend = is.ascend;
  }

  module _ (left_all : length left ≡ length a) (right_all : length right ≡ length b) where
    abbrev done : List Path
    done = tree_paths order

    abbrev either_paths : List Path
    either_paths = tree_paths a ++ tree_paths b

    done_sorted : IsStrictlySortedBy path_order done
    done_sorted = sorted_from_all_adjacent path_order_total done [] (λ k lt. is.ascend k (k + 1) [] (omega arith) lt)

    in_done : (i : ℕ) → i < length either_paths → has_node done (get_or either_paths i []) ≡ true
    in_done i lt =
        let a_long = as_many_paths a in let b_long = as_many_paths b in
        let long = as_many_paths order in
        let both = length-append (tree_paths a) (tree_paths b) in
        elim (cases_lt i (length (tree_paths a))) [
          | inl less ↦
              let at = is.left_follows.numbers_are i (omega arith) in
              let inside = at.0 in
              has_at done (number_given left i) (get_or either_paths i []) (omega arith) (at.1 ∙ sym (get_or-append (tree_paths a) (tree_paths b) [] i less))
          | inr le ↦
              let j : ℕ = i - length (tree_paths a) in
              let at = is.right_follows.numbers_are j (omega arith) in
              let inside = at.0 in
              has_at done (number_given right j) (get_or either_paths i []) (omega arith) (at.1 ∙ sym (get_or-append_right (tree_paths a) (tree_paths b) (length (tree_paths a)) i [] refl le))
        ]

    same_nodes : (q : Path) → has_node done q ≡ has_node either_paths q
    same_nodes q =
        bool_same (has_node done q) (has_node either_paths q)
        (λ has. let at = at_index done q has in has_from either_paths q (subst (Contains either_paths) at.2 (is.among at.0 (let lt = at.1 in let long = as_many_paths order in omega arith))))
        (λ has. let at = at_index either_paths q has in ap (has_node done) (sym at.2) ∙ in_done at.0 at.1)

    pub done_is : done ≡ ascending path_order either_paths
    done_is = sym (ascending_of_sorted path_order_total path_order_tells done done_sorted) ∙ same_ascending path_order_total path_order_tells done either_paths same_nodes

-- ---- the counts

abbrev amount : NodeCount → ℕ
amount c = c.count

-- the count is of a column and a path
abbrev is_of : List Path → ℕ → Path → NodeCount → Bool
is_of paths column path c = c.column == column && same_path path (path_or_none paths c.node)

-- how many paths of a column end at the node with this path
abbrev pub counted : List NodeCount → List Path → ℕ → Path → ℕ
counted cs paths column path = sum_by (λ c. c.count) (filter (λ c. c.column == column && same_path path (path_or_none paths c.node)) cs)

pub counted_cons : (c : NodeCount) (cs : List NodeCount) (paths : List Path) (column : ℕ) (path : Path) → counted (c ∷ cs) paths column path ≡ cond (is_of paths column path c) c.count 0 + counted cs paths column path
counted_cons c cs paths column path =
    elim (is_of paths column path c) as (λ t. sum_by amount (cond t (c ∷ filter (is_of paths column path) cs) (filter (is_of paths column path) cs)) ≡ cond t c.count 0 + counted cs paths column path) [
      | true ↦ sum_by-cons amount c (filter (is_of paths column path) cs)
      | false ↦ omega arith
    ]

counted_append : (xs ys : List NodeCount) (paths : List Path) (column : ℕ) (path : Path) → counted (xs ++ ys) paths column path ≡ counted xs paths column path + counted ys paths column path
counted_append xs ys paths column path =
    ap (sum_by amount) (filter-append (is_of paths column path) xs ys) ∙ sum_by-append amount (filter (is_of paths column path) xs) (filter (is_of paths column path) ys)

-- the numbers of nodes lead to nodes of the same paths
abbrev Leads : List Path → List Path → List ℕ → Type 0
Leads order_paths paths numbers = (i : ℕ) → i < length paths → path_or_none order_paths (number_given numbers i) ≡ path_or_none paths i

counted_with : (order_paths paths : List Path) (numbers : List ℕ) → Leads order_paths paths numbers → (cs : List NodeCount) (column : ℕ) (path : Path) → All (λ c. c.node < length paths) cs → counted (map (count_with numbers) cs) order_paths column path ≡ counted cs paths column path
counted_with order_paths paths numbers leads [] column path inside = refl
counted_with order_paths paths numbers leads (c ∷ cs) column path inside =
    let P : NodeCount → Type 0 = λ x. x.node < length paths in
    counted_cons (count_with numbers c) (map (count_with numbers) cs) order_paths column path
    ∙ ap₂ (λ (x y : ℕ). x + y) (ap (λ (p : Path). cond (c.column == column && same_path path p) c.count 0) (leads c.node (All-head P c cs inside))) (counted_with order_paths paths numbers leads cs column path (All-tail P c cs inside))
    ∙ sym (counted_cons c cs paths column path)

total_with : (numbers : List ℕ) (cs : List NodeCount) → counts_in (map (count_with numbers) cs) ≡ counts_in cs
total_with numbers [] = refl
total_with numbers (c ∷ cs) =
    sum_by-cons amount (count_with numbers c) (map (count_with numbers) cs) ∙ ap (λ (n : ℕ). c.count + n) (total_with numbers cs) ∙ sym (sum_by-cons amount c cs)

module _ (done : List Path) (ascend : AllPairs (λ m n. path_order m n ≡ Less) done) where
  and_swap : (s t : Bool) → (s && t) ≡ (t && s)
  and_swap true true = refl
  and_swap true false = refl
  and_swap false true = refl
  and_swap false false = refl

  and_none : (s : Bool) → (s && false) ≡ false
  and_none true = refl
  and_none false = refl

  number_same : (i m : ℕ) (path : Path) → i < length done → get_or done i [] ≡ path → m < length done → same_path path (path_or_none done m) ≡ (m == i)
  number_same i m path lt at m_lt =
      elim (cases_eq m i) [
        | inl same ↦ ap (same_path path) (ap (path_or_none done) same ∙ at) ∙ path_itself path ∙ sym (eq-eqb m i same)
        | inr apart ↦ path_false path (path_or_none done m) (λ e. apart (numbers_tell done ascend m i m_lt lt (sym e ∙ sym at))) ∙ sym (ne_eqb m i apart)
      ]

  counted_at : (cs : List NodeCount) (i column : ℕ) (path : Path) → i < length done → get_or done i [] ≡ path → All (λ c. c.node < length done) cs → counted cs done column path ≡ count_at cs i column
  counted_at [] i column path lt at inside = refl
  counted_at (c ∷ cs) i column path lt at inside =
      let P : NodeCount → Type 0 = λ x. x.node < length done in
      counted_cons c cs done column path
      ∙ ap₂ (λ (x y : ℕ). x + y)
      (ap (λ b. cond b c.count 0) (ap (λ b. (c.column == column) && b) (number_same i c.node path lt at (All-head P c cs inside)) ∙ and_swap (c.column == column) (c.node == i)))
      (counted_at cs i column path lt at (All-tail P c cs inside))
      ∙ sym (count_cons c cs i column)

  counted_none : (cs : List NodeCount) (column : ℕ) (path : Path) → has_node done path ≡ false → All (λ c. c.node < length done) cs → counted cs done column path ≡ 0
  counted_none [] column path none inside = refl
  counted_none (c ∷ cs) column path none inside =
      let P : NodeCount → Type 0 = λ x. x.node < length done in
      let own = All-head P c cs inside in
      let off : same_path path (path_or_none done c.node) ≡ false = path_false path (path_or_none done c.node) (λ e. true≢false (sym (has_at done c.node path own (sym e)) ∙ none)) in
      counted_cons c cs done column path
      ∙ ap₂ (λ (x y : ℕ). x + y) (ap (λ b. cond ((c.column == column) && b) c.count 0) off ∙ ap (λ b. cond b c.count 0) (and_none (c.column == column))) (counted_none cs column path none (All-tail P c cs inside))

  pub counted_sums : (both sums : List NodeCount) (column : ℕ) (path : Path) → AreSums both sums → All (λ c. c.node < length done) both → counted sums done column path ≡ counted both done column path
  counted_sums both sums column path are inside =
      let own : All (λ c. c.node < length done) sums = are.nodes (length done) inside in
      elim (has_node done path) as (λ b. has_node done path ≡ b → counted sums done column path ≡ counted both done column path) [
        | true ↦ λ has.
            let at = at_index done path has in
            counted_at sums at.0 column path at.1 at.2 own ∙ are.same at.0 column ∙ sym (counted_at both at.0 column path at.1 at.2 inside)
        | false ↦ λ none. counted_none sums column path none own ∙ sym (counted_none both column path none inside)
      ] refl

-- ---- the tree

module _ (a b : CountedTree) (left right : List ℕ) (order : List Node) (sums : List NodeCount) (a_tree : IsTree a) (b_tree : IsTree b) (can : CanBeAdded a b) (is : Walking a.nodes b.nodes left right order)
    (left_all : length left ≡ length a.nodes) (right_all : length right ≡ length b.nodes) (are : AreSums (both_counts left a.counts right b.counts) sums) where
  abbrev all : List NodeCount
  all = both_counts left a.counts right b.counts

  abbrev paths : List Path
  paths = tree_paths order

  left_leads : Leads paths (tree_paths a.nodes) left
  left_leads i lt = (is.left_follows.numbers_are i (let long = as_many_paths a.nodes in omega arith)).1

  right_leads : Leads paths (tree_paths b.nodes) right
  right_leads i lt = (is.right_follows.numbers_are i (let long = as_many_paths b.nodes in omega arith)).1

  both_all : (P : NodeCount → Type 0) → All (λ c. P (count_with left c)) a.counts → All (λ c. P (count_with right c)) b.counts → All P all
  both_all P l r = All-append P (map (count_with left) a.counts) (map (count_with right) b.counts) (All-map P (count_with left) a.counts l) (All-map P (count_with right) b.counts r)

  nodes_inside : All (λ c. c.node < length order) all
  nodes_inside =
      both_all (λ c. c.node < length order)
      (λ i d lt. (is.left_follows.numbers_are (get_or a.counts i d).node (let n = a_tree.nodes i d lt in omega arith)).0)
      (λ i d lt. (is.right_follows.numbers_are (get_or b.counts i d).node (let n = b_tree.nodes i d lt in omega arith)).0)

  abbrev pub sum_tree : CountedTree
  sum_tree = record { columns = a.columns; nodes = order; counts = sums }

  pub sum_is_tree : IsTree sum_tree
  sum_is_tree = record {
    few = order_few a.nodes b.nodes left right order is;
    preorder = in_order a.nodes b.nodes left right order is;
    nodes = are.nodes (length order) nodes_inside;
    columns = are.columns a.columns (both_all (λ c. c.column < a.columns) a_tree.columns (subst (λ (n : ℕ). All (λ c. c.column < n) b.counts) (sym can.columns) b_tree.columns));
    some = are.some (both_all (λ c. 0 < c.count) a_tree.some b_tree.some);
    ascend = are.ascend;
  }

  pub sum_is : IsSum a b sum_tree
  sum_is =
      let long = as_many_paths order in
      let inside : All (λ c. c.node < length paths) all = subst (λ (n : ℕ). All (λ c. c.node < n) all) (sym long) nodes_inside in
      record {
        columns = refl;
        nodes = done_is a.nodes b.nodes left right order is left_all right_all;
        counts = λ column path.
            counted_sums paths is.ascend all sums column path are inside
            ∙ counted_append (map (count_with left) a.counts) (map (count_with right) b.counts) paths column path
            ∙ ap₂ (λ (x y : ℕ). x + y)
            (counted_with paths (tree_paths a.nodes) left left_leads a.counts column path (subst (λ (n : ℕ). All (λ c. c.node < n) a.counts) (sym (as_many_paths a.nodes)) a_tree.nodes))
            (counted_with paths (tree_paths b.nodes) right right_leads b.counts column path (subst (λ (n : ℕ). All (λ c. c.node < n) b.counts) (sym (as_many_paths b.nodes)) b_tree.nodes));
        total = are.total ∙ sum_by-append amount (map (count_with left) a.counts) (map (count_with right) b.counts) ∙ ap₂ (λ (x y : ℕ). x + y) (total_with left a.counts) (total_with right b.counts);
      }

pub sum_from : (a b made tree : CountedTree) → tree ≡ made → IsSum a b made → IsSum a b tree
sum_from a b made tree is of = subst (IsSum a b) (sym is) of

pub few_both : (left right : List ℕ) (xs ys : List NodeCount) (n : ℕ) → counts_in xs + counts_in ys ≤ n → counts_in (both_counts left xs right ys) ≤ n
few_both left right xs ys n few =
    (let both = sum_by-append amount (map (count_with left) xs) (map (count_with right) ys) in let l = total_with left xs in let r = total_with right ys in omega arith)

pub few_moved : (old new : List NodeCount) (n : ℕ) → IsPermutation old new → counts_in old ≤ n → counts_in new ≤ n
few_moved old new n moved few = (let same = sum_by-IsPermutation amount old new moved in omega arith)

-- the same by what was read of the trees
pub tree_ok : (a b : CountedTree) (a_nodes b_nodes : List Node) (a_counts b_counts : List NodeCount) (left right left_read right_read : List ℕ) (order : List Node) (sums : List NodeCount) (columns : ℕ)
    → a_nodes ≡ a.nodes → b_nodes ≡ b.nodes → a_counts ≡ a.counts → b_counts ≡ b.counts → left_read ≡ left → right_read ≡ right → columns ≡ a.columns → IsTree a → IsTree b → CanBeAdded a b
    → Walking a_nodes b_nodes left right order → length left ≡ length a_nodes → length right ≡ length b_nodes → AreSums (both_counts left_read a_counts right_read b_counts) sums
    → IsTree (record { columns = columns; nodes = order; counts = sums }) × IsSum a b (record { columns = columns; nodes = order; counts = sums })
tree_ok a b a_nodes b_nodes a_counts b_counts left right left_read right_read order sums columns an bn ac bc ln rn cn a_tree b_tree can walk left_long right_long are =
    let walk' : Walking a.nodes b.nodes left right order = subst (λ (x : List Node). Walking x b.nodes left right order) an (subst (λ (x : List Node). Walking a_nodes x left right order) bn walk) in
    let left_all : length left ≡ length a.nodes = left_long ∙ ap (λ (x : List Node). length x) an in
    let right_all : length right ≡ length b.nodes = right_long ∙ ap (λ (x : List Node). length x) bn in
    let are_left : AreSums (both_counts left a_counts right b_counts) sums =
    subst (λ (x : List ℕ). AreSums (both_counts x a_counts right b_counts) sums) ln (subst (λ (x : List ℕ). AreSums (both_counts left_read a_counts x b_counts) sums) rn are) in
    let are' : AreSums (both_counts left a.counts right b.counts) sums =
    subst (λ (x : List NodeCount). AreSums (both_counts left x right b.counts) sums) ac (subst (λ (x : List NodeCount). AreSums (both_counts left a_counts right x) sums) bc are_left) in
    let of : ℕ → CountedTree = λ n. record { columns = n; nodes = order; counts = sums } in (
      subst (λ (n : ℕ). IsTree (of n)) (sym cn) (sum_is_tree a b left right order sums a_tree b_tree can walk' left_all right_all are'),
      subst (λ (n : ℕ). IsSum a b (of n)) (sym cn) (sum_is a b left right order sums a_tree b_tree can walk' left_all right_all are'),
    )
