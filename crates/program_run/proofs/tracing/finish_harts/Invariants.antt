use Rattle.std.proofs.Common.{◌≡◌}
use Rattle.trace_lines.specs.Traces.{with_harts}
use Rattle.program_run.proofs.FinishedHarts.{partly}
use Rattle.program_run.proofs.tracing.finish_harts.Given as goal

-- the first harts are finished, and the others are as they were
abbrev pub invariant-loop-hart : goal.invariant-loop-hart
invariant-loop-hart l = l.trace ≡ with_harts l.fn.trace (partly l.machine.state 0 l.hart l.fn.trace.harts)
