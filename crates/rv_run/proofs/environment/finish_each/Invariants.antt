use Rattle.std.proofs.Common.{◌≡◌, ◌++◌, map, take, drop}
use Rattle.rv_run.specs.Calls.{grouped}
use Rattle.rv_run.proofs.environment.finish_each.Given as goal

abbrev pub invariant-loop-index : goal.invariant-loop-index
invariant-loop-index l = l.cores ≡ map (grouped l.status) (take l.index l.fn.cores) ++ drop l.index l.fn.cores
