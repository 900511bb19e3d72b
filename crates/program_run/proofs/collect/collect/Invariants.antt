use Rattle.std.proofs.Common.{◌*◌, length}
use Rattle.sample_clock.specs.Clock.{samples_to_come}
use Rattle.program_run.proofs.Collecting.{SoFar}
use Rattle.program_run.proofs.collect.collect.Given as goal

abbrev pub invariant-loop-sample : goal.invariant-loop-sample
invariant-loop-sample g l = SoFar (g.U.Unwind.path_of l.unwinder) (l.harts * l.events) l.events l.fn.samples l.samples l.ccts

abbrev pub decreases-loop-sample : goal.decreases-loop-sample
decreases-loop-sample g l = length (samples_to_come (g.U.Unwind.path_of l.unwinder) l.samples)
