-- Trees: the nodes of call paths make one, and its counts are those of the paths that end in it.
use Rattle.std.proofs.Common.{◌≡◌, ℕ, ◌+◌, ◌*◌, ◌<◌, ◌≤◌, ◌==◌, ◌&&◌, Bool, true, false, cond, List, [], ◌∷◌, ◌++◌, length, get_or, filter, count_by, sum_by, replicate, Less, Equal, All, AllPairs, refl, sym, ap, subst, ◌∙◌, true≢false, arith, inl, inr, append-nil, length-append}
use Rattle.std.specs.Prelude.{◌≢◌}
use Rattle.std.specs.List.{flat_map}
use Rattle.std.proofs.lemmas.Bool.{cases_order, cases_eq, eq-eqb}
use Rattle.std.proofs.lemmas.Bool.Decides.{nat_tests}
use Rattle.std.proofs.lemmas.Cmp.{tied_itself}
use Rattle.std.proofs.lemmas.List.{get_or-map, length-map, length-replicate}
use Rattle.std.proofs.lemmas.List.Elements.{All-tail, Contains-get_or}
use Rattle.std.proofs.lemmas.List.Folds.{sum_by-replicate}
use Rattle.std.proofs.lemmas.List.Sums.{sum_by-append, sum_by-cons}
use Rattle.prof_bytes.proofs.Tests.{and_swap}
use Rattle.scope_types.specs.CallPaths.{ColumnPath}
use Rattle.scope_types.specs.Order.{path_order}
use Rattle.scope_types.proofs.Orders.{path_order_total}
use Rattle.tree_types.specs.declared.content.Node.{Node}
use Rattle.tree_types.specs.declared.counted_tree.NodeCount.{NodeCount}
use Rattle.tree_types.specs.Database.{node_list}
use Rattle.tree_types.specs.Laws.{node}
use Rattle.tree_types.specs.Nodes.{nodes, no_parent, own_scope, parent_number}
use Rattle.tree_types.specs.Paths.{Path, after_prefix, rest_passes}
use Rattle.tree_types.specs.PathsOf.{tree_paths}
use Rattle.tree_types.specs.Tree.{CountedTree, IsPreorder, IsTree, count_at, counts_in, node_path, counted_path, paths_in}
use Rattle.tree_types.specs.Values.{ends_here, count_below}
use Rattle.tree_types.proofs.Counting.{one}
use Rattle.tree_types.proofs.NodeLaws.{nodes_ascend, node_is_prefix}
use Rattle.tree_types.proofs.Parents.{has_parent}
use Rattle.tree_types.proofs.PathSteps.{as_many_paths}
use Rattle.tree_types.proofs.Prefixes.{after_again, after_is, passes_is}
use Rattle.tree_types.proofs.Sorting.{bool_same}
use Rattle.tree_types.proofs.TreePaths.{tree_paths_is}

-- ---- the nodes of call paths

abbrev listed : List Path → Path → Node
listed ns n = record { parent = parent_number ns n; scope = own_scope n }

pub nodes_listed : (ps : List ColumnPath) → length (node_list ps) ≡ length (nodes ps)
nodes_listed ps = length-map (nodes ps) (λ n. record { parent = parent_number (nodes ps) n; scope = own_scope n })

pub listed_in_preorder : (ps : List ColumnPath) → length (nodes ps) ≤ no_parent → IsPreorder (node_list ps)
listed_in_preorder ps few = record {
  parents = before;
  ascend = subst (λ (ns : List Path). AllPairs (λ m n. path_order m n ≡ Less) ns) (sym (tree_paths_is ps few)) (nodes_ascend ps);
}
  where
    before : (i : ℕ) (d : Node) → i < length (node_list ps) → (get_or (node_list ps) i d).parent ≢ no_parent → (get_or (node_list ps) i d).parent < i
    before i d lt inner =
        let ns : List Path = nodes ps in
        let inside : i < length ns = (let long = nodes_listed ps in omega arith) in
        let is : (get_or (node_list ps) i d).parent ≡ parent_number ns (node ns i) =
        ap (λ (n : Node). n.parent) (get_or-map (λ n. record { parent = parent_number ns n; scope = own_scope n }) ns i [] d inside) in
        let h = has_parent ps i inside in
        let some : 0 < length (node ns i) = (node_is_prefix ps (node ns i) (Contains-get_or ns i [] inside)).2.some in
        elim (cases_eq (length (node ns i)) 1) [
          | inl root ↦ absurd (inner (is ∙ h.root root))
          | inr longer ↦ let more : 1 < length (node ns i) = more_than_one (length (node ns i)) some longer in subst (λ (k : ℕ). k < i) (sym is) (h.before more)
        ]
      where
        more_than_one : (n : ℕ) → 0 < n → n ≢ 1 → 1 < n
        more_than_one n some apart = omega arith

-- ---- the paths that end in a tree

some_path_is : (n m : Path) → rest_passes ends_here (after_prefix n m) ≡ true → m ≡ n
some_path_is n m e =
    let p = passes_is ends_here (after_prefix n m) e in
    after_is n m p.0 p.1 ∙ ap (λ (r : Path). n ++ r) (none_left p.0 p.2) ∙ append-nil n
  where
    none_left : (r : Path) → ends_here r ≡ true → r ≡ []
    none_left [] e = refl
    none_left (s ∷ r) e = absurd (true≢false (sym e))

ends_at_itself : (n : Path) → rest_passes ends_here (after_prefix n n) ≡ true
ends_at_itself n = ap (λ (m : Path). rest_passes ends_here (after_prefix n m)) (sym (append-nil n)) ∙ ap (rest_passes ends_here) (after_again n [])

module _ (ns : List Path) (ascend : AllPairs (λ m n. path_order m n ≡ Less) ns) where
  less_apart : (m n : Path) → path_order m n ≡ Less → m ≢ n
  less_apart m n less e = let tied : Less ≡ Equal = sym less ∙ ap (path_order m) (sym e) ∙ tied_itself path_order_total m in absurd cc

  -- paths in strict order are apart
  pub numbers_tell : (i j : ℕ) → i < length ns → j < length ns → get_or ns i [] ≡ get_or ns j [] → i ≡ j
  numbers_tell i j lti ltj e = elim (cases_order i j) [
    | inl same ↦ same
    | inr (inl less) ↦ absurd (less_apart (get_or ns i []) (get_or ns j []) (ascend i j [] less ltj) e)
    | inr (inr more) ↦ absurd (less_apart (get_or ns j []) (get_or ns i []) (ascend j i [] more lti) (sym e))
  ]

  pub ends_by_number : (i j : ℕ) → i < length ns → j < length ns → rest_passes ends_here (after_prefix (get_or ns j []) (get_or ns i [])) ≡ (i == j)
  ends_by_number i j lti ltj =
      bool_same (rest_passes ends_here (after_prefix (get_or ns j []) (get_or ns i []))) (i == j)
      (λ e. eq-eqb i j (numbers_tell i j lti ltj (some_path_is (get_or ns j []) (get_or ns i []) e)))
      (λ e. let same : i ≡ j = grind (arith, nat_tests) in subst (λ (k : ℕ). rest_passes ends_here (after_prefix (get_or ns j []) (get_or ns k [])) ≡ true) (sym same) (ends_at_itself (get_or ns j [])))

sum-filter-cons : (test : NodeCount → Bool) (c : NodeCount) (cs : List NodeCount) → sum_by (λ c. c.count) (filter test (c ∷ cs)) ≡ c.count * one (test c) + sum_by (λ c. c.count) (filter test cs)
sum-filter-cons test c cs = elim (test c) as (λ b. sum_by (λ c. c.count) (cond b (c ∷ filter test cs) (filter test cs)) ≡ c.count * one b + sum_by (λ c. c.count) (filter test cs)) [
  | true ↦ (let first = sum_by-cons (λ (c : NodeCount). c.count) c (filter test cs) in omega arith)
  | false ↦ omega arith
]

module _ (nodes : List Node) where
  ends_counted : (cs : List NodeCount) (i column : ℕ) → AllPairs (λ m n. path_order m n ≡ Less) (tree_paths nodes) → i < length (tree_paths nodes) → All (λ c. c.node < length (tree_paths nodes)) cs
      → count_by (λ p. p.column == column && rest_passes ends_here (after_prefix (node_path nodes i) p.path)) (flat_map (λ c. replicate c.count (counted_path nodes c)) cs)
      ≡ sum_by (λ c. c.count) (filter (λ c. c.node == i && c.column == column) cs)
  ends_counted [] i column ascend lt inside = refl
  ends_counted (c ∷ cs) i column ascend lt inside =
      let test : ColumnPath → Bool = λ p. p.column == column && rest_passes ends_here (after_prefix (node_path nodes i) p.path) in
      let mine : NodeCount → Bool = λ c. c.node == i && c.column == column in
      let here : c.node < length (tree_paths nodes) = inside 0 c (omega arith) in
      let same : test (counted_path nodes c) ≡ mine c =
      ap (λ b. c.column == column && b) (ends_by_number (tree_paths nodes) ascend c.node i here lt) ∙ and_swap (c.column == column) (c.node == i) in
      let parts : count_by test (flat_map (λ c. replicate c.count (counted_path nodes c)) (c ∷ cs))
      ≡ count_by test (replicate c.count (counted_path nodes c)) + count_by test (flat_map (λ c. replicate c.count (counted_path nodes c)) cs) =
      sum_by-append (λ (p : ColumnPath). one (test p)) (replicate c.count (counted_path nodes c)) (flat_map (λ c. replicate c.count (counted_path nodes c)) cs) in
      let first : count_by test (replicate c.count (counted_path nodes c)) ≡ c.count * one (mine c) =
      sum_by-replicate (λ (p : ColumnPath). one (test p)) c.count (counted_path nodes c) ∙ ap (λ b. c.count * one b) same in
      let rest = ends_counted cs i column ascend lt (All-tail (λ c. c.node < length (tree_paths nodes)) c cs inside) in
      parts ∙ ap (λ (n : ℕ). n + count_by test (flat_map (λ c. replicate c.count (counted_path nodes c)) cs)) first ∙ ap (λ (n : ℕ). c.count * one (mine c) + n) rest
      ∙ sym (sum-filter-cons mine c cs)

  paths_counted : (cs : List NodeCount) → length (flat_map (λ c. replicate c.count (counted_path nodes c)) cs) ≡ counts_in cs
  paths_counted [] = refl
  paths_counted (c ∷ cs) =
      length-append (replicate c.count (counted_path nodes c)) (flat_map (λ c. replicate c.count (counted_path nodes c)) cs)
      ∙ ap (λ (n : ℕ). n + length (flat_map (λ c. replicate c.count (counted_path nodes c)) cs)) (length-replicate c.count (counted_path nodes c))
      ∙ ap (λ (n : ℕ). c.count + n) (paths_counted cs) ∙ sym (sum_by-cons (λ (c : NodeCount). c.count) c cs)

-- ---- what the counts of a tree are

pub counts_are_paths : (t : CountedTree) (node column : ℕ) → IsTree t → node < length t.nodes → count_at t.counts node column ≡ count_below ends_here (paths_in t) column (node_path t.nodes node)
unfolding paths_in count_below
counts_are_paths t node column tree lt =
    let long = as_many_paths t.nodes in
    let inside : All (λ c. c.node < length (tree_paths t.nodes)) t.counts = λ i d below. (let n = tree.nodes i d below in omega arith) in
    sym (ends_counted t.nodes t.counts node column tree.preorder.ascend (omega arith) inside)

pub paths_in_tree : (t : CountedTree) → length (paths_in t) ≡ counts_in t.counts
unfolding paths_in
paths_in_tree t = paths_counted t.nodes t.counts

pub ruleset tree_laws = (nodes_listed, listed_in_preorder, tree_paths_is, counts_are_paths, paths_in_tree, as_many_paths)
