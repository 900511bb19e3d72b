-- The values other than 0, twice: by column (profile-major) and by node (context-major), the two planes of
-- HPCToolkit's databases.
use Rattle.std.specs.Prelude.{ℕ, ◌==◌, not, List, [], ◌∷◌, map, filter}
use Rattle.std.specs.List.{flat_map, enumerate_from}
use Rattle.scope_types.specs.CallPaths.{ColumnPath}
use Rattle.tree_types.specs.declared.content.Kind.{Kind}
use Rattle.tree_types.specs.declared.content.Kind.TheVariants.{Exclusive, Frame, Inclusive}
use Rattle.tree_types.specs.declared.content.ProfileEntry.{ProfileEntry}
use Rattle.tree_types.specs.declared.content.ContextEntry.{ContextEntry}
use Rattle.tree_types.specs.Paths.{Path}
use Rattle.tree_types.specs.Nodes.{nodes}
use Rattle.tree_types.specs.Values.{value, columns_below}

-- the kinds of values, in the order in which both planes have them
abbrev pub kinds : List Kind
kinds = Exclusive ∷ Frame ∷ Inclusive ∷ []

-- an entry of a column: a node's number, a kind, a value
abbrev pub profile_entry : ℕ → Kind → ℕ → ProfileEntry
profile_entry number kind amount = record { node = number; kind = kind; value = amount }

-- an entry of a node's list: a kind, a column, a value
abbrev pub context_entry : Kind → ℕ → ℕ → ContextEntry
context_entry kind column amount = record { kind = kind; column = column; value = amount }

-- the three values of a node, which is given with its number; the periods are those of the columns
abbrev pub node_values : (ℕ → ℕ) → List ColumnPath → ℕ → ℕ × Path → List ProfileEntry
node_values period paths column n =
    map (λ kind. profile_entry n.0 kind (value (period column) paths column n.1 kind)) kinds

-- the entries whose value is not 0, in their order
abbrev pub other_than_zero : List ProfileEntry → List ProfileEntry
other_than_zero es = filter (λ e. not (e.value == 0)) es

-- the values of a column other than 0, by node, then kind
unfoldable pub profile_entries : (ℕ → ℕ) → List ColumnPath → ℕ → List ProfileEntry
profile_entries period paths column = other_than_zero
    (flat_map (node_values period paths column) (enumerate_from 0 (nodes paths)))

-- the values of a node of one kind other than 0, by column
abbrev pub context_entries_of_kind : (ℕ → ℕ) → ℕ → List ColumnPath → Path → Kind → List ContextEntry
context_entries_of_kind period columns paths n kind =
    filter (λ e. not (e.value == 0))
    (map (λ column. context_entry kind column (value (period column) paths column n kind))
    (columns_below columns))

-- the values of a node other than 0, by kind, then column
unfoldable pub context_entries : (ℕ → ℕ) → ℕ → List ColumnPath → Path → List ContextEntry
context_entries period columns paths n = flat_map (context_entries_of_kind period columns paths n) kinds

-- each column's period, the number of columns, the paths: a list for each column
abbrev pub profile_plane : (ℕ → ℕ) → ℕ → List ColumnPath → List (List ProfileEntry)
profile_plane period columns paths = map (profile_entries period paths) (columns_below columns)

-- each column's period, the number of columns, the paths: a list for each node
abbrev pub context_plane : (ℕ → ℕ) → ℕ → List ColumnPath → List (List ContextEntry)
context_plane period columns paths = map (context_entries period columns paths) (nodes paths)
