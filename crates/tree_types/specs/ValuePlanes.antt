-- The values of a tree as the two planes of HPCToolkit's databases: by column (profile-major) and by node
-- (context-major).
use Rattle.std.specs.Prelude.{ℕ, ◌==◌, ◌&&◌, List, map, filter}
use Rattle.std.specs.List.{flat_map, range_with_len}
use Rattle.tree_types.specs.declared.content.Kind.{Kind}
use Rattle.tree_types.specs.declared.content.ProfileEntry.{ProfileEntry}
use Rattle.tree_types.specs.declared.content.ContextEntry.{ContextEntry}
use Rattle.tree_types.specs.declared.node_values.NodeValue.{NodeValue}
use Rattle.tree_types.specs.NodeValues.{NodeValues, kind_rank}
use Rattle.tree_types.specs.Planes.{kinds, profile_entry, context_entry}
use Rattle.tree_types.specs.Values.{columns_below}

-- a value in its column's list, and in its node's
abbrev pub in_profile : NodeValue → ProfileEntry
in_profile v = profile_entry v.node v.kind v.value

-- a value as an entry of its node's list
abbrev pub in_context : NodeValue → ContextEntry
in_context v = context_entry v.kind v.column v.value

-- the values of a column, by node, then kind
abbrev pub column_entries : List NodeValue → ℕ → List ProfileEntry
column_entries values column = map in_profile (filter (λ v. v.column == column) values)

-- the values of a node of one kind, by column
abbrev pub kind_entries : List NodeValue → ℕ → Kind → List ContextEntry
kind_entries values node kind = map in_context
    (filter (λ v. v.node == node && kind_rank v.kind == kind_rank kind) values)

-- the values of a node, by kind, then column
abbrev pub node_entries : List NodeValue → ℕ → List ContextEntry
node_entries values node = flat_map (kind_entries values node) kinds

-- for each column its values
unfoldable pub entries_by_column : NodeValues → List (List ProfileEntry)
entries_by_column values = map (column_entries values.entries) (columns_below values.columns)

-- for each node its values
unfoldable pub entries_by_node : NodeValues → List (List ContextEntry)
entries_by_node values = map (node_entries values.entries) (range_with_len 0 values.nodes)
