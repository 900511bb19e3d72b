use Rattle.std.proofs.Common.{◌≡◌, take}
use Rattle.hpc_top.specs.commands.Merge.{harts_of_runs}
use Rattle.hpc_top.proofs.runs.harts_of.Given as goal

abbrev pub invariant-loop-run : goal.invariant-loop-run
invariant-loop-run l = l.harts.items ≡ harts_of_runs (take l.run-index l.runs)
