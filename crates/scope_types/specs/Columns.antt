-- The columns of a profile: hart by hart, the harts of all runs one after another, and of each hart event by event.
use Rattle.std.specs.Prelude.{ℕ, ◌+◌, ◌*◌, ◌/◌, ◌%◌, ◌==◌, List, length, map, filter, sum, slice_index_or}
use Rattle.scope_types.specs.CallPaths.{ColumnPath}

-- how many columns the harts of these runs have, where so many events are sampled
abbrev pub columns_of : ℕ → List ℕ → ℕ
columns_of events runs = sum runs * events

-- the column of a hart, and of the event at this place in the list of events
abbrev pub column_of : ℕ → ℕ → ℕ → ℕ
column_of events hart place = hart * events + place

-- the hart of a column
abbrev pub hart_of_column : ℕ → ℕ → ℕ
hart_of_column events column = column / events

-- the place of a column's event
abbrev pub place_of_column : ℕ → ℕ → ℕ
place_of_column events column = column % events

-- the period of a column, which is that of its event
abbrev pub period_of_column : List ℕ → ℕ → ℕ
period_of_column periods column = slice_index_or periods (place_of_column (length periods) column) 0

-- the call paths of the event at this place, hart by hart
abbrev pub paths_of_event : ℕ → ℕ → List ColumnPath → List ColumnPath
paths_of_event events place paths =
    map (λ p. record { column = hart_of_column events p.column; path = p.path })
    (filter (λ p. place_of_column events p.column == place) paths)
