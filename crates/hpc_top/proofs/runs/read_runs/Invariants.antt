use Rattle.std.proofs.Common.{◌≡◌, All, Ok, length, take}
use Rattle.hpc_top.specs.commands.Merge.{measurements_from}
use Rattle.hpc_top.proofs.KeptRuns.{IsKept}
use Rattle.hpc_top.proofs.runs.read_runs.Given as goal

abbrev pub invariant-loop-place : goal.invariant-loop-place
invariant-loop-place l = (measurements_from 0 (take l.place l.measured) ≡ Ok l.runs.items) × All IsKept l.runs.items × (length l.runs.items ≡ l.place)
