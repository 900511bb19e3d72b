-- The paths of a joined tree are those of the entries.
use Rattle.std.proofs.Common.{◌≡◌, ℕ, ◌<◌, ◌≤◌, List, [], ◌∷◌, length, get_or, map, replicate, sum_by, All, sym, ap, subst, ◌∙◌, arith}
use Rattle.std.specs.List.{flat_map}
use Rattle.std.proofs.lemmas.List.Elements.{All-nil, All-append, All-head, All-replicate, All-tail, All-weaker}
use Rattle.scope_types.specs.declared.path.Entry.{Entry}
use Rattle.scope_types.specs.Alike.{Alike}
use Rattle.thread_cct.specs.Plan.{CountsSamples}
use Rattle.scope_types.specs.CallPaths.{ColumnPath, entry_path, each_path}
use Rattle.tree_types.specs.Database.{node_list}
use Rattle.tree_types.specs.Nodes.{nodes, no_parent}
use Rattle.tree_types.specs.Paths.{Path}
use Rattle.tree_types.specs.PathsOf.{tree_paths}
use Rattle.tree_types.specs.Tree.{CountedTree, IsTree, count_at, node_path, paths_in}
use Rattle.tree_types.specs.Values.{ends_here, count_below}
use Rattle.tree_types.proofs.CountedPaths.{paths_made}
use Rattle.tree_types.proofs.TreeLaws.{nodes_listed}
use Rattle.tree_types.proofs.TreePaths.{tree_paths_is}
use Rattle.path_trie.specs.Trie.{trie_node, nth_path, count_of}
use Rattle.path_trie.proofs.Samples.{nodes_of_samples, counts_of_samples, nodes_of_parts, counts_of_parts}
use Rattle.tree_join.specs.Join.{joined_nodes, nodes_of_all}

-- the tree has the paths of these entries
abbrev pub HasPaths : List Entry → CountedTree → Type 0
HasPaths es tree = Alike (paths_in tree) (each_path es) × (tree.nodes ≡ node_list (each_path es))

module _ (columns : ℕ) where
  -- a path that has scopes, of a column that there is
  abbrev pub IsOwn : ColumnPath → Type 0
  IsOwn p = (p.column < columns) × (0 < length p.path)

  pub each_own : (es : List Entry) → All (CountsSamples columns) es → All IsOwn (each_path es)
  unfolding each_path
  each_own [] all = All-nil IsOwn
  each_own (e ∷ es) all =
      let first = All-head (CountsSamples columns) e es all in
      All-append IsOwn (replicate e.count (entry_path e)) (each_path es) (All-replicate IsOwn e.count (entry_path e) (first.column, first.path))
      (each_own es (All-tail (CountsSamples columns) e es all))

module _ (es : List Entry) (tree : CountedTree) (is : IsTree tree) (nodes_are : tree.nodes ≡ map (trie_node (joined_nodes es)) (joined_nodes es))
    (counts_are : (node column : ℕ) → node < length tree.nodes → count_at tree.counts node column ≡ count_of es column (nth_path (joined_nodes es) node)) (all : All (CountsSamples tree.columns) es) where
  abbrev ps : List ColumnPath
  ps = each_path es

  joined_is : joined_nodes es ≡ nodes ps
  joined_is = nodes_of_samples es (All-weaker (CountsSamples tree.columns) (λ e. 0 < e.count) (λ e c. c.some) es all)

  listed : tree.nodes ≡ node_list ps
  listed = nodes_are ∙ ap (λ (ns : List Path). map (trie_node ns) ns) joined_is

  few : length (nodes ps) ≤ no_parent
  few = (let long = nodes_listed ps in let same = ap length listed in let small = is.few in omega arith)

  paths_are : tree_paths tree.nodes ≡ nodes ps
  paths_are = ap tree_paths listed ∙ tree_paths_is ps few

  own : All (IsOwn tree.columns) ps
  own = each_own tree.columns es all

  counted : (node column : ℕ) → node < length tree.nodes → count_at tree.counts node column ≡ count_below ends_here ps column (node_path tree.nodes node)
  counted node column lt =
      counts_are node column lt ∙ counts_of_samples es column (nth_path (joined_nodes es) node)
      ∙ ap (λ (ns : List Path). count_below ends_here ps column (get_or ns node [])) (joined_is ∙ sym paths_are)

  pub paths_joined : HasPaths es tree
  paths_joined =
      (paths_made tree ps is listed few (All-weaker (IsOwn tree.columns) (λ p. p.column < tree.columns) (λ p o. o.0) ps own) (All-weaker (IsOwn tree.columns) (λ p. 0 < length p.path) (λ p o. o.1) ps own) counted, listed)

-- the entries of several tries, one after the other
abbrev pub all_in : List (List Entry) → List Entry
all_in parts = flat_map (λ es. es) parts

pub paths_several : (parts : List (List Entry)) (columns : ℕ) (tree : CountedTree) → IsTree tree → tree.columns ≡ columns → tree.nodes ≡ map (trie_node (nodes_of_all parts)) (nodes_of_all parts)
    → ((node column : ℕ) → node < length tree.nodes → count_at tree.counts node column ≡ sum_by (λ es. count_of es column (nth_path (nodes_of_all parts) node)) parts)
    → All (CountsSamples columns) (all_in parts) → HasPaths (all_in parts) tree
paths_several parts columns tree is columns_are nodes counts all =
    let same : nodes_of_all parts ≡ joined_nodes (all_in parts) = sym (nodes_of_parts parts) in
    paths_joined (all_in parts) tree is (nodes ∙ ap (λ (ns : List Path). map (trie_node ns) ns) same)
    (λ node column lt.
    counts node column lt ∙ sym (counts_of_parts parts column (nth_path (nodes_of_all parts) node))
    ∙ ap (λ (ns : List Path). count_of (all_in parts) column (nth_path ns node)) same)
    (subst (λ (h : ℕ). All (CountsSamples h) (all_in parts)) (sym columns_are) all)
