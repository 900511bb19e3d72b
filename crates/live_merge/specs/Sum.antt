-- The sum of two calling context trees (HPCToolkit's manual, "Calling Context Tree"): what both have, as one tree.
use Rattle.std.specs.Prelude.{◌≡◌, ℕ, ◌+◌, ◌≤◌, ◌<◌, ◌==◌, ◌&&◌, List, ◌++◌, filter, length, sum_by}
use Rattle.scope_types.specs.CallPaths.{ColumnPath}
use Rattle.scope_types.specs.Limits.{most_samples}
use Rattle.scope_types.specs.Order.{path_order}
use Rattle.tree_types.specs.Ascending.{ascending}
use Rattle.tree_types.specs.Nodes.{nodes, no_parent}
use Rattle.tree_types.specs.Paths.{Path}
use Rattle.tree_types.specs.PathsOf.{tree_paths}
use Rattle.tree_types.specs.Tree.{CountedTree, counts_in, node_path}
use Rattle.tree_types.specs.Values.{count_below, ends_here}
use Rattle.path_trie.specs.Trie.{same_path}

-- the paths of the nodes of either tree, each once, in the order of paths: in preorder, siblings by their scopes
abbrev pub nodes_of_either : CountedTree → CountedTree → List Path
nodes_of_either a b = ascending path_order (tree_paths a.nodes ++ tree_paths b.nodes)

-- how many paths of a column end at the node with this path; none where the tree has no such node
abbrev pub count_of_path : CountedTree → ℕ → Path → ℕ
count_of_path tree column path =
    sum_by (λ c. c.count) (filter (λ c. c.column == column && same_path path (node_path tree.nodes c.node)) tree.counts)

-- two trees can be added: they have as many columns, no more paths than a profile has samples, and few enough nodes
-- that each of the sum has a number other than no parent's
pub record CanBeAdded (a b : CountedTree) : Type 0 where
  pub columns : a.columns ≡ b.columns
  pub samples : counts_in a.counts + counts_in b.counts ≤ most_samples
  pub nodes : length a.nodes + length b.nodes < no_parent

-- the sum of two trees: the nodes of either, each once, in the order of paths, and at each node and column as many
-- paths as end there in both. A tree's nodes follow from their paths, and its counts from how many paths end at each
-- node; that two such trees are therefore the same is not proved
pub record IsSum (a b sum : CountedTree) : Type 0 where
  pub columns : sum.columns ≡ a.columns
  pub nodes : tree_paths sum.nodes ≡ nodes_of_either a b
  pub counts : (column : ℕ) (path : Path)
      → count_of_path sum column path ≡ count_of_path a column path + count_of_path b column path
  pub total : counts_in sum.counts ≡ counts_in a.counts + counts_in b.counts

-- the tree of call paths: its nodes are their nonempty prefixes, in the order of paths, and at each node and column as
-- many paths end as there are of the column with the node's scopes
pub record HasPaths (paths : List ColumnPath) (tree : CountedTree) : Type 0 where
  pub nodes : tree_paths tree.nodes ≡ nodes paths
  pub counts : (column : ℕ) (path : Path) → 0 < length path
      → count_of_path tree column path ≡ count_below ends_here paths column path
