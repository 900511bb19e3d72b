-- The fields of a trace file in this project's format (docs/FORMATS.md, Trace): numbers of four and of eight bytes,
-- read one after another up to the first fault.
use Rattle.std.specs.Prelude.{ℕ, Bool, Result, Ok, Err, if◌then◌else◌}
use Rattle.prof_bytes.specs.Format.{number_or}
use Rattle.prof_bytes.specs.Outcome.{◌>>=◌}
use Rattle.prof_bytes.specs.Reading.{At}
use Rattle.trace_lines.specs.declared.fault.TraceFault.{TraceFault}

-- a value, and where the next field begins; or the first fault
abbrev pub TraceRead : Type 0 → Type 0
TraceRead X = Result (X × At) TraceFault

-- the fault of the field at an offset
abbrev pub fault_at : ℕ → TraceFault
fault_at offset = record { offset = offset }

-- what begins there is at fault
abbrev pub starting_at : At → TraceFault
starting_at at = fault_at at.offset

-- a number of four bytes. Where it is not whole, the fault is at its start
abbrev pub word_from : At → TraceRead ℕ
word_from at = number_or starting_at 4 at

-- a number of eight bytes
abbrev pub long_from : At → TraceRead ℕ
long_from at = number_or starting_at 8 at

-- a number of four bytes that a rule passes. Where the rule is broken, the fault is at its start too
abbrev pub word_by : (ℕ → Bool) → At → TraceRead ℕ
word_by rule at = do
  (n, next) ← word_from at
  if rule n then Ok (n, next) else Err (starting_at at)
