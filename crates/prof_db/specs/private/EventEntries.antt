-- How many entries the columns of an event have together.
use Rattle.std.specs.Prelude.{ℕ, List, [], length, map, slice_index_or, sum_by}
use Rattle.std.specs.List.{range_with_len}
use Rattle.scope_types.specs.Columns.{column_of}
use Rattle.tree_types.specs.declared.content.ProfileEntry.{ProfileEntry}

-- the entries of a hart's column of the event at this place in the list of events
abbrev pub column_entries : ℕ → ℕ → List (List ProfileEntry) → ℕ → List ProfileEntry
column_entries events place lists hart = slice_index_or lists (column_of events hart place) []

-- how many entries there are in the columns of so many harts
abbrev pub entries_of_event : ℕ → ℕ → List (List ProfileEntry) → ℕ → ℕ
entries_of_event events place lists harts =
    sum_by (λ list. length list) (map (column_entries events place lists) (range_with_len 0 harts))
