use Rattle.std.proofs.Common.{length}
use Rattle.sample_clock.specs.Clock.{samples_to_come}
use Rattle.live_merge.proofs.Epochs.{AllSoFar}
use Rattle.live_merge.proofs.epoch.count_rest.Given as goal

abbrev pub invariant-loop-sample : goal.invariant-loop-sample
invariant-loop-sample g l = AllSoFar (g.U.Unwind.path_of l.unwinder) (length l.fn.all) l.events l.fn.all l.fn.samples l.samples l.taken l.all

abbrev pub decreases-loop-sample : goal.decreases-loop-sample
decreases-loop-sample g l = length (samples_to_come (g.U.Unwind.path_of l.unwinder) l.samples)
