use Rattle.std.proofs.Common.{length}
use Rattle.sample_clock.specs.Clock.{samples_to_come}
use Rattle.program_run.proofs.TracedSoFar.{TracedSoFar}
use Rattle.program_run.proofs.tracing.trace_samples.Given as goal

abbrev pub invariant-loop-sample : goal.invariant-loop-sample
invariant-loop-sample g l = TracedSoFar (g.U.Unwind.path_of l.unwinder) l.fn.trace l.trace l.fn.samples l.samples

abbrev pub decreases-loop-sample : goal.decreases-loop-sample
decreases-loop-sample g l = length (samples_to_come (g.U.Unwind.path_of l.unwinder) l.samples)
