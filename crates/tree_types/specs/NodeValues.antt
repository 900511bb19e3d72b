-- The values of the nodes of a tree, column by column, as they are summed up.
use Rattle.std.specs.Prelude.{◌≡◌, ℕ, ◌<◌, ◌==◌, ◌&&◌, not, List, [], ◌∷◌, length, map, filter, sum_by, All, AllPairs}
use Rattle.std.specs.List.{flat_map, range_with_len}
use Rattle.std.specs.Cmp.Lexicographic.{slice_cmp}
use Rattle.std.specs.Ordering.{nat_cmp}
use Rattle.std.specs.declared.cmp.Ordering.{Ordering}
use Rattle.std.specs.declared.cmp.Ordering.TheVariants.{Less}
use Rattle.tree_types.specs.declared.content.Kind.{Kind}
use Rattle.tree_types.specs.declared.content.Kind.TheVariants.{Exclusive, Frame, Inclusive}
use Rattle.tree_types.specs.declared.node_values.NodeValue.{NodeValue}
use Rattle.tree_types.specs.Planes.{kinds}
use Rattle.tree_types.specs.Tree.{CountedTree, node_path, paths_in}
use Rattle.tree_types.specs.Values.{value, columns_below}

-- how many nodes and columns there are, and the values other than 0
pub record NodeValues : Type 0 where
  pub nodes : ℕ
  pub columns : ℕ
  pub entries : List NodeValue

-- the kinds in their order
abbrev pub kind_rank : Kind → ℕ
kind_rank Exclusive = 0
kind_rank Frame = 1
kind_rank Inclusive = 2

-- values by node, then column, then kind
abbrev pub value_order : NodeValue → NodeValue → Ordering
value_order a b =
    slice_cmp nat_cmp (a.node ∷ a.column ∷ kind_rank a.kind ∷ []) (b.node ∷ b.column ∷ kind_rank b.kind ∷ [])

-- values above 0 of these nodes and columns, each node, column and kind once, in order
pub record AreValues (values : NodeValues) : Type 0 where
  pub nodes : All (λ v. v.node < values.nodes) values.entries
  pub columns : All (λ v. v.column < values.columns) values.entries
  pub some : All (λ v. 0 < v.value) values.entries
  pub ascend : AllPairs (λ a b. value_order a b ≡ Less) values.entries

-- the value of a kind of a node for a column; 0 where no entry has it
abbrev pub value_at : List NodeValue → ℕ → ℕ → Kind → ℕ
value_at entries node column kind = sum_by (λ v. v.value)
    (filter (λ v. v.node == node && (v.column == column && kind_rank v.kind == kind_rank kind)) entries)

-- ---- the values of a tree

-- a value, by the column's period and the paths that end in the tree
abbrev pub node_value : (ℕ → ℕ) → CountedTree → ℕ → ℕ → Kind → NodeValue
node_value period tree node column kind = record {
  node = node;
  column = column;
  kind = kind;
  value = value (period column) (paths_in tree) column (node_path tree.nodes node) kind;
}

-- the three values of a node for a column
abbrev pub values_for_column : (ℕ → ℕ) → CountedTree → ℕ → ℕ → List NodeValue
values_for_column period tree node column = map (node_value period tree node column) kinds

-- the values of a node, column by column
abbrev pub values_at_node : (ℕ → ℕ) → CountedTree → ℕ → List NodeValue
values_at_node period tree node = flat_map (values_for_column period tree node) (columns_below tree.columns)

-- those that are not 0
abbrev pub nonzero : List NodeValue → List NodeValue
nonzero values = filter (λ v. not (v.value == 0)) values

-- the values of all nodes of a tree other than 0, by node, then column, then kind, with a period for each column
unfoldable pub values_of : (ℕ → ℕ) → CountedTree → NodeValues
values_of period tree = record {
  nodes = length tree.nodes;
  columns = tree.columns;
  entries = nonzero (flat_map (values_at_node period tree) (range_with_len 0 (length tree.nodes)));
}
