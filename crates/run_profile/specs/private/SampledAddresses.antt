-- The addresses that are gathered of counted samples.
use Rattle.std.specs.Prelude.{ℕ, List, fold}
use Rattle.scope_types.specs.declared.frame.Counted.{Counted}
use Rattle.scope_expand.specs.Gathered.{Gathered, gathered_with, none_gathered}

-- with the addresses of a counted path, if there is room
abbrev pub gathered_counted : Gathered → Counted → Gathered
gathered_counted g counted = gathered_with g counted.path

-- with those of the paths of a column, one after another
abbrev pub gathered_column : Gathered → List Counted → Gathered
gathered_column g column = fold gathered_counted g column

-- the addresses of the paths of all columns, up to so many frames
abbrev pub gathered_of : ℕ → List (List Counted) → Gathered
gathered_of most tables = fold gathered_column (none_gathered most) tables
