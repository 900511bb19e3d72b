-- A calling context tree with counts, as a merge makes it: the nodes, and how many paths of each column end at each.
use Rattle.std.specs.Prelude.{◌≡◌, ◌≢◌, ℕ, ◌+◌, ◌-◌, ◌<◌, ◌==◌, ◌&&◌, List, [], ◌∷◌, length, filter, sum_by}
use Rattle.std.specs.Prelude.{replicate, slice_index_or, All, AllPairs}
use Rattle.std.specs.List.{flat_map, range_with_len}
use Rattle.std.specs.Cmp.Lexicographic.{slice_cmp}
use Rattle.std.specs.Ordering.{nat_cmp}
use Rattle.std.specs.declared.cmp.Ordering.{Ordering}
use Rattle.std.specs.declared.cmp.Ordering.TheVariants.{Less}
use Rattle.scope_types.specs.CallPaths.{ColumnPath}
use Rattle.scope_types.specs.Order.{path_order}
use Rattle.scope_types.specs.declared.scope.RootKind.TheVariants.{Thread}
use Rattle.scope_types.specs.declared.scope.Scope.TheVariants.{Root}
use Rattle.tree_types.specs.declared.content.Node.{Node}
use Rattle.tree_types.specs.declared.counted_tree.NodeCount.{NodeCount}
use Rattle.tree_types.specs.Nodes.{no_parent}
use Rattle.tree_types.specs.Paths.{Path}
use Rattle.tree_types.specs.PathsOf.{tree_paths}

-- how many columns there are; the nodes, in the order of their numbers; how many paths end at a node, column by column
pub record CountedTree : Type 0 where
  pub columns : ℕ
  pub nodes : List Node
  pub counts : List NodeCount

-- a node's parent comes before it, and its path comes before that of each later node. So the nodes are in
-- preorder, and siblings, as well as roots, strictly ascend by their scopes
pub record IsPreorder (nodes : List Node) : Type 0 where
  pub parents : (i : ℕ) (d : Node) → i < length nodes
      → (slice_index_or nodes i d).parent ≢ no_parent → (slice_index_or nodes i d).parent < i
  pub ascend : AllPairs (λ m n. path_order m n ≡ Less) (tree_paths nodes)

-- counts by node, then column
abbrev pub count_order : NodeCount → NodeCount → Ordering
count_order a b = slice_cmp nat_cmp (a.node ∷ a.column ∷ []) (b.node ∷ b.column ∷ [])

-- a tree: few enough nodes that each has a number other than no parent's; counts above 0 of its nodes and columns,
-- each node and column once, in order
pub record IsTree (tree : CountedTree) : Type 0 where
  pub few : length tree.nodes < no_parent
  pub preorder : IsPreorder tree.nodes
  pub nodes : All (λ c. c.node < length tree.nodes) tree.counts
  pub columns : All (λ c. c.column < tree.columns) tree.counts
  pub some : All (λ c. 0 < c.count) tree.counts
  pub ascend : AllPairs (λ a b. count_order a b ≡ Less) tree.counts

-- how many paths of a column end at a node
abbrev pub count_at : List NodeCount → ℕ → ℕ → ℕ
count_at counts node column = sum_by (λ c. c.count) (filter (λ c. c.node == node && c.column == column) counts)

-- how many paths end in the tree
abbrev pub counts_in : List NodeCount → ℕ
counts_in counts = sum_by (λ c. c.count) counts

-- the node with this number
abbrev pub node_at : List Node → ℕ → Node
node_at nodes node = slice_index_or nodes node (record { parent = no_parent; scope = Root Thread })

-- the path of the node with this number
abbrev pub node_path : List Node → ℕ → Path
node_path nodes node = slice_index_or (tree_paths nodes) node []

-- the numbers of the nodes after a node
abbrev pub nodes_behind : List Node → ℕ → List ℕ
nodes_behind nodes node = range_with_len (node + 1) (length nodes - (node + 1))

-- the call path that a count counts
abbrev pub counted_path : List Node → NodeCount → ColumnPath
counted_path nodes c = record { column = c.column; path = node_path nodes c.node }

-- the paths that end in the tree: each node's path, for each column as often as its count
unfoldable pub paths_in : CountedTree → List ColumnPath
paths_in tree = flat_map (λ c. replicate c.count (counted_path tree.nodes c)) tree.counts
