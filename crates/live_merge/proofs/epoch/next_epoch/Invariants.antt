use Rattle.std.proofs.Common.{length}
use Rattle.live_merge.proofs.EpochSoFar.{SoFar}
use Rattle.live_merge.proofs.epoch.next_epoch.Given as goal

abbrev pub invariant-loop-taken : goal.invariant-loop-taken
invariant-loop-taken g l = SoFar (g.U.Unwind.path_of l.unwinder) (length l.fn.all) l.events l.fn.all l.fn.samples l.samples l.taken l.all l.ccts
