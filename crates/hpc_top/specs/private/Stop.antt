-- Why a command stops early, and the answer that it gives then.
use Rattle.std.specs.Prelude.{◌≡◌, Result, Ok, Err}
use Rattle.prof_bytes.specs.declared.fail.Fail.{Fail}
use Rattle.prof_bytes.specs.declared.fail.Fail.TheVariants as fails
use Rattle.command_line.specs.declared.status.InputFault.{InputFault}
use Rattle.hpc_top.specs.declared.status.Stop.{Stop}
use Rattle.hpc_top.specs.declared.status.Stop.TheVariants as stops
use Rattle.command_line.specs.declared.status.Status.{Status}
use Rattle.command_line.specs.declared.status.Status.TheVariants.{Done, Input, Device, Memory}

-- why a command stops where a call fails
abbrev pub IsStopOf : Fail InputFault → Stop → Type 0
IsStopOf (fails.Fault fault) stop = stop ≡ stops.Input fault
IsStopOf (fails.Memory memory) stop = stop ≡ stops.Memory memory

-- the answer of a command that stops
abbrev pub stopped : Stop → Status
stopped (stops.Input fault) = Input fault
stopped (stops.Device place) = Device place
stopped (stops.Memory memory) = Memory memory

-- the answer of a command that comes to its end, or stops
abbrev pub answer_of : Result (Unit {0}) Stop → Status
answer_of (Ok _) = Done
answer_of (Err stop) = stopped stop
