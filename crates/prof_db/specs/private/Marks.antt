-- What the reader's parts give.
use Rattle.std.specs.Prelude.{◌≡◌, ℕ, ◌<◌, Bool, false, List, length, slice_index_or, Result, Ok, Err}
use Rattle.prof_bytes.specs.Reading.{At}
use Rattle.prof_db.specs.declared.fault.DbFault.{DbFault}
use Rattle.prof_db.specs.Fields.{DbRead}
use Rattle.prof_db.specs.NameRules.{is_among}

-- which of the numbers below a count are among others
pub record AreMarks (numbers : List ℕ) (count : ℕ) (marks : List Bool) : Type 0 where
  pub long : length marks ≡ count
  pub each : (k : ℕ) → k < count → slice_index_or marks k false ≡ is_among numbers k

-- the definition has just this answer, wherever the next field begins
abbrev pub Stands : Result (Unit {0}) DbFault → DbRead (Unit {0}) → Type 0
Stands (Ok done) wanted = (next : At) × (wanted ≡ Ok (tt, next))
Stands (Err fault) wanted = wanted ≡ Err fault
