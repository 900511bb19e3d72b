use Rattle.std.proofs.Common.{◌≡◌, take}
use Rattle.trace_lines.specs.Timeline.{span_of}
use Rattle.trace_lines.proofs.rows.span_of.Given as goal

abbrev pub invariant-loop-hart : goal.invariant-loop-hart
invariant-loop-hart l = l.span ≡ span_of (take l.hart l.trace.harts)
