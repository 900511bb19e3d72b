-- The tree of several tries.
use Rattle.std.specs.Prelude.{◌≡◌, ℕ, ◌<◌, List, length, map, sum_by, All}
use Rattle.std.specs.List.{flat_map}
use Rattle.scope_types.specs.declared.path.Entry.{Entry}
use Rattle.scope_types.specs.Alike.{Alike}
use Rattle.scope_types.specs.CallPaths.{each_path}
use Rattle.thread_cct.specs.Plan.{CountsSamples}
use Rattle.tree_types.specs.Database.{node_list}
use Rattle.tree_types.specs.Nodes.{no_parent}
use Rattle.tree_types.specs.Tree.{CountedTree, count_at, paths_in}
use Rattle.path_trie.specs.Trie.{trie_node, nth_path, count_of}
use Rattle.tree_join.specs.Join.{nodes_of_all}

-- the tree of these entries, for a given number of columns
pub record IsTreeOf (parts : List (List Entry)) (columns : ℕ) (tree : CountedTree) : Type 0 where
  pub columns_are : tree.columns ≡ columns
  pub nodes : tree.nodes ≡ map (trie_node (nodes_of_all parts)) (nodes_of_all parts)
  pub counts : (node column : ℕ) → node < length tree.nodes
      → count_at tree.counts node column ≡ sum_by (λ es. count_of es column (nth_path (nodes_of_all parts) node)) parts
  pub few : length tree.nodes < no_parent
  pub paths : All (CountsSamples columns) (flat_map (λ es. es) parts)
      → Alike (paths_in tree) (each_path (flat_map (λ es. es) parts))
      × (tree.nodes ≡ node_list (each_path (flat_map (λ es. es) parts)))
