-- The fields of a measurement file in this project's format (docs/FORMATS.md, Measurement): words of four bytes, read
-- one after another up to the first fault.
use Rattle.std.specs.Prelude.{ℕ, Bool, Result, Ok, Err, if◌then◌else◌}
use Rattle.prof_bytes.specs.Format.{number_or}
use Rattle.prof_bytes.specs.Outcome.{◌>>=◌}
use Rattle.prof_bytes.specs.Reading.{At}
use Rattle.measure_file.specs.declared.fault.MeasureFault.{MeasureFault}

-- a value, and where the next field begins; or the first fault
abbrev pub MeasureRead : Type 0 → Type 0
MeasureRead X = Result (X × At) MeasureFault

-- the fault of the field at an offset
abbrev pub fault_at : ℕ → MeasureFault
fault_at offset = record { offset = offset }

-- what begins there is at fault
abbrev pub starting_at : At → MeasureFault
starting_at at = fault_at at.offset

-- a word. Where it is not whole, the fault is at its start
abbrev pub word_from : At → MeasureRead ℕ
word_from at = number_or starting_at 4 at

-- a word that a rule passes. Where the rule is broken, the fault is at its start too
abbrev pub word_by : (ℕ → Bool) → At → MeasureRead ℕ
word_by rule at = do
  (n, next) ← word_from at
  if rule n then Ok (n, next) else Err (starting_at at)
