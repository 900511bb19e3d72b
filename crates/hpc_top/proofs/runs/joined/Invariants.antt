use Rattle.std.proofs.Common.{length}
use Rattle.hpc_top.proofs.KeptRuns.{IsJoining}
use Rattle.hpc_top.proofs.runs.joined.Given as goal

abbrev pub invariant-loop-left : goal.invariant-loop-left
invariant-loop-left l = IsJoining l.all l.left.items l.fn.runs.items

abbrev pub decreases-loop-left : goal.decreases-loop-left
decreases-loop-left l = length l.left.items
