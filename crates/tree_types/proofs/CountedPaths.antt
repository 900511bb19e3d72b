-- A tree that has the nodes of call paths, and at each node as many as end there, has these paths.
use Rattle.std.proofs.Common.{◌≡◌, ℕ, suc, ◌+◌, ◌*◌, ◌<◌, ◌≤◌, Bool, true, List, [], ◌∷◌, length, get_or, count_by, sum_by, replicate, All, Contains, refl, sym, ap, ap₂, subst, ◌∙◌, arith, append-nil}
use Rattle.std.specs.List.{flat_map}
use Rattle.std.proofs.lemmas.List.Elements.{All-nil, All-append, All-replicate, All-tail, All-weaker, Contains-get_or, recursion_from_All}
use Rattle.std.proofs.lemmas.List.Sums.{sum_by-cons}
use Rattle.scope_types.specs.Alike.{Alike}
use Rattle.scope_types.specs.CallPaths.{ColumnPath}
use Rattle.scope_types.specs.Order.{path_order}
use Rattle.scope_types.proofs.Orders.{path_order_total, path_order_tells}
use Rattle.tree_types.specs.declared.counted_tree.NodeCount.{NodeCount}
use Rattle.tree_types.specs.Database.{node_list}
use Rattle.tree_types.specs.Nodes.{nodes, no_parent}
use Rattle.tree_types.specs.Paths.{Path}
use Rattle.tree_types.specs.PathsOf.{tree_paths}
use Rattle.tree_types.specs.Tree.{CountedTree, IsTree, count_at, node_path, counted_path, paths_in}
use Rattle.tree_types.specs.Values.{ends_here, count_below, columns_below}
use Rattle.tree_types.proofs.Counting.{one}
use Rattle.tree_types.proofs.NodeLaws.{sorted_nodes, prefix_is_node}
use Rattle.tree_types.proofs.PathSteps.{as_many_paths}
use Rattle.tree_types.proofs.PathsAgain.{at_column, counted_at_nodes}
use Rattle.tree_types.proofs.Sorting.{has, has-from_Contains}
use Rattle.tree_types.proofs.TreeLaws.{counts_are_paths}
use Rattle.tree_types.proofs.TreePaths.{tree_paths_is}

sums_same : (f g : Path → ℕ) (ns : List Path) → ((i : ℕ) → i < length ns → f (get_or ns i []) ≡ g (get_or ns i [])) → sum_by f ns ≡ sum_by g ns
sums_same f g [] same = refl
sums_same f g (n ∷ ns) same =
    sum_by-cons f n ns ∙ ap₂ (λ (a b : ℕ). a + b) (same 0 (omega arith)) (sums_same f g ns (λ i lt. same (suc i) (omega arith))) ∙ sym (sum_by-cons g n ns)

module _ (tree : CountedTree) (ps : List ColumnPath) (is : IsTree tree) (nodes_are : tree.nodes ≡ node_list ps) (few : length (nodes ps) ≤ no_parent) where
  abbrev ns : List Path
  ns = nodes ps

  paths_are : tree_paths tree.nodes ≡ ns
  paths_are = ap tree_paths nodes_are ∙ tree_paths_is ps few

  -- a path that ends at a node, of a column of the tree
  abbrev IsOwn : ColumnPath → Type 0
  IsOwn p = Contains ns p.path × (p.column < tree.columns)

  counted : (c : NodeCount) → c.node < length tree.nodes → c.column < tree.columns → IsOwn (counted_path tree.nodes c)
  counted c lt below = (subst (λ (xs : List Path). Contains xs (node_path tree.nodes c.node)) paths_are (Contains-get_or (tree_paths tree.nodes) c.node [] (let long = as_many_paths tree.nodes in omega arith)), below)

  its_paths : (cs : List NodeCount) → All (λ c. c.node < length tree.nodes) cs → All (λ c. c.column < tree.columns) cs → All IsOwn (flat_map (λ c. replicate c.count (counted_path tree.nodes c)) cs)
  its_paths [] inside below = All-nil IsOwn
  its_paths (c ∷ cs) inside below =
      All-append IsOwn (replicate c.count (counted_path tree.nodes c)) (flat_map (λ c. replicate c.count (counted_path tree.nodes c)) cs)
      (All-replicate IsOwn c.count (counted_path tree.nodes c) (counted c (inside 0 c (omega arith)) (below 0 c (omega arith))))
      (its_paths cs (All-tail (λ c. c.node < length tree.nodes) c cs inside) (All-tail (λ c. c.column < tree.columns) c cs below))

  tree_own : All IsOwn (paths_in tree)
  unfolding paths_in
  tree_own = its_paths tree.counts is.nodes is.columns

  own_counted : (q : ColumnPath → Bool) (xs : List ColumnPath) → All IsOwn xs
      → sum_by (λ h. sum_by (λ m. one (q (at_column h m)) * count_below ends_here xs h m) ns) (columns_below tree.columns) ≡ count_by q xs
  own_counted q xs own =
      counted_at_nodes ns tree.columns q xs (sorted_nodes ps)
      (recursion_from_All (λ (p : ColumnPath). has path_order p.path ns ≡ true) xs (All-weaker IsOwn (λ p. has path_order p.path ns ≡ true) (λ p both. has-from_Contains path_order_total path_order_tells p.path ns both.0) xs own))
      (recursion_from_All (λ (p : ColumnPath). p.column < tree.columns) xs (All-weaker IsOwn (λ p. p.column < tree.columns) (λ p both. both.1) xs own))

  module _ (below : All (λ p. p.column < tree.columns) ps) (some : All (λ p. 0 < length p.path) ps)
      (counts : (node column : ℕ) → node < length tree.nodes → count_at tree.counts node column ≡ count_below ends_here ps column (node_path tree.nodes node)) where
    all_own : All IsOwn ps
    all_own = λ i d lt. (
      prefix_is_node ps (get_or ps i d) (get_or ps i d).path (Contains-get_or ps i d lt) (record { some = some i d lt; rest = []; parts = sym (append-nil (get_or ps i d).path) }),
      below i d lt,
    )

    same_count : (h i : ℕ) → i < length ns → count_below ends_here (paths_in tree) h (get_or ns i []) ≡ count_below ends_here ps h (get_or ns i [])
    same_count h i lt =
        let inside : i < length tree.nodes = (let long = as_many_paths tree.nodes in let same = ap (λ (xs : List Path). length xs) paths_are in omega arith) in
        subst (λ (xs : List Path). count_below ends_here (paths_in tree) h (get_or xs i []) ≡ count_below ends_here ps h (get_or xs i [])) paths_are
        (sym (counts_are_paths tree i h is inside) ∙ counts i h inside)

    at_nodes : (q : ColumnPath → Bool) (h : ℕ) → sum_by (λ m. one (q (at_column h m)) * count_below ends_here (paths_in tree) h m) ns ≡ sum_by (λ m. one (q (at_column h m)) * count_below ends_here ps h m) ns
    at_nodes q h =
        sums_same (λ m. one (q (at_column h m)) * count_below ends_here (paths_in tree) h m) (λ m. one (q (at_column h m)) * count_below ends_here ps h m) ns
        (λ i lt. ap (λ (k : ℕ). one (q (at_column h (get_or ns i []))) * k) (same_count h i lt))

    pub paths_made : Alike (paths_in tree) ps
    paths_made = record { same = λ q. sym (own_counted q (paths_in tree) tree_own) ∙ (λ i. sum_by (λ h. at_nodes q h i) (columns_below tree.columns)) ∙ own_counted q ps all_own }
