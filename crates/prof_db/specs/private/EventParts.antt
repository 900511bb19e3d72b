-- The parts of a content of several events that are of one of them.
use Rattle.std.specs.Prelude.{ℕ, ◌+◌, ◌==◌, Bool, List, [], ◌∷◌, length, map, filter, take, slice_index_or}
use Rattle.std.specs.Prelude.{if◌then◌else◌}
use Rattle.std.specs.List.{flat_map, list_any, range_with_len}
use Rattle.scope_types.specs.Columns.{column_of, hart_of_column, place_of_column}
use Rattle.tree_types.specs.declared.content.ContextEntry.{ContextEntry}
use Rattle.tree_types.specs.declared.content.Node.{Node}
use Rattle.tree_types.specs.declared.content.ProfileEntry.{ProfileEntry}
use Rattle.tree_types.specs.Nodes.{no_parent}
use Rattle.tree_types.specs.Tree.{node_at}

-- ---- the lists of the nodes

-- whether an entry of a node's list is of the event at this place
abbrev pub is_of_event : ℕ → ℕ → ContextEntry → Bool
is_of_event events place e = place_of_column events e.column == place

-- an entry with its hart in place of its column
abbrev pub with_hart : ℕ → ContextEntry → ContextEntry
with_hart events e = record { kind = e.kind; column = hart_of_column events e.column; value = e.value }

-- the entries of a node's list that are of the event, each with its hart
abbrev pub event_list : ℕ → ℕ → List ContextEntry → List ContextEntry
event_list events place list = map (with_hart events) (filter (is_of_event events place) list)

-- whether a node has values of the event
abbrev pub has_event : ℕ → ℕ → List ContextEntry → Bool
has_event events place list = list_any (is_of_event events place) list

-- the lists of the nodes that have values of the event
abbrev pub event_lists : ℕ → ℕ → List (List ContextEntry) → List (List ContextEntry)
event_lists events place lists = map (event_list events place) (filter (has_event events place) lists)

-- ---- numbers

-- how many of the nodes before this one have values of the event: its number among those, if it has some too
abbrev pub event_number_of : ℕ → ℕ → List (List ContextEntry) → ℕ → ℕ
event_number_of events place lists node = length (filter (has_event events place) (take node lists))

-- that of each node, and after the last one how many there are
abbrev pub event_numbers : ℕ → ℕ → List (List ContextEntry) → List ℕ
event_numbers events place lists = map (event_number_of events place lists) (range_with_len 0 (length lists + 1))

-- the number that a node has among those that are kept: how many of these come before it
abbrev pub new_number : List ℕ → ℕ → ℕ
new_number numbers node = slice_index_or numbers node 0

-- whether a node is not kept: the next one has the same number
abbrev pub is_left_out : List ℕ → ℕ → Bool
is_left_out numbers node = new_number numbers node == new_number numbers (node + 1)

-- ---- nodes, and the lists of the columns

-- a node with its parent's new number
abbrev pub renumbered : List ℕ → Node → Node
renumbered numbers n = record {
  parent = if n.parent == no_parent then no_parent else new_number numbers n.parent;
  scope = n.scope;
}

-- a node, if it is kept
abbrev pub kept_node : List ℕ → List Node → ℕ → List Node
kept_node numbers nodes i = if is_left_out numbers i then [] else renumbered numbers (node_at nodes i) ∷ []

-- those of the first nodes that are kept
abbrev pub kept_nodes : List ℕ → List Node → ℕ → List Node
kept_nodes numbers nodes many = flat_map (kept_node numbers nodes) (range_with_len 0 many)

-- an entry of a column with its node's new number
abbrev pub renumbered_entry : List ℕ → ProfileEntry → ProfileEntry
renumbered_entry numbers e = record { node = new_number numbers e.node; kind = e.kind; value = e.value }

-- the list of a hart's column of the event
abbrev pub hart_list : ℕ → ℕ → List ℕ → List (List ProfileEntry) → ℕ → List ProfileEntry
hart_list events place numbers lists hart =
    map (renumbered_entry numbers) (slice_index_or lists (column_of events hart place) [])
