-- The exit status of the program.
use Rattle.std.specs.Prelude.{ℕ}
use Rattle.command_line.specs.declared.status.Status.{Status}
use Rattle.command_line.specs.declared.status.Status.TheVariants.{Done, Usage, Input, Device, Memory}

-- 0 where all was done, 2 for an invalid command line, 3 for a file that is refused, 4 for a device that failed, and 5
-- where memory ran out
abbrev pub exit_number : Status → ℕ
exit_number Done = 0
exit_number Usage = 2
exit_number (Input fault) = 3
exit_number (Device place) = 4
exit_number (Memory memory) = 5
