-- How a fault of a lower layer becomes one of an input.
use Rattle.std.specs.Prelude.{◌≡◌, Result, Ok, Err}
use Rattle.prof_bytes.specs.declared.fail.Fail.{Fail}
use Rattle.prof_bytes.specs.declared.fail.Fail.TheVariants as fails
use Rattle.command_line.specs.declared.status.InputFault.{InputFault}

-- this is so of the fault, where there is one
abbrev pub ForFault : {X F : Type 0} → Result X (Fail F) → (F → Type 0) → Type 0
ForFault (Ok x) Holds = Unit {0}
ForFault (Err (fails.Fault fault)) Holds = Holds fault
ForFault (Err (fails.Memory memory)) Holds = Unit {0}

-- the same value, the same want of memory, or a fault that the first one turns into
abbrev pub Refused : {X F : Type 0} → (F → InputFault → Type 0) → Result X (Fail F) → Result X (Fail InputFault) → Type 0
Refused Turns (Ok x) result = result ≡ Ok x
Refused Turns (Err (fails.Fault fault)) result =
    (input : InputFault) × (result ≡ Err (fails.Fault input)) × Turns fault input
Refused Turns (Err (fails.Memory memory)) result = result ≡ Err (fails.Memory memory)
