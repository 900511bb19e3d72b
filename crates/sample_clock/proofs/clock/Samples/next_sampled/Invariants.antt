use Rattle.std.proofs.Common.{length}
use Rattle.rv_run.specs.Progress.{to_come}
use Rattle.sample_clock.specs.private.Advance.{NoneMet}
use Rattle.sample_clock.proofs.clock.Samples.next_sampled.Given as goal

abbrev pub invariant-loop-coming : goal.invariant-loop-coming
invariant-loop-coming g l = NoneMet (g.U.Unwind.path_of l.fn.unwinder) l.fn.self l.self

abbrev pub decreases-loop-coming : goal.decreases-loop-coming
decreases-loop-coming g l = length (to_come l.self.machine).instants
