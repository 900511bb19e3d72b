use Rattle.std.proofs.Common.{◌≡◌, length, All}
use Rattle.trace_lines.specs.Traces.{idle_hart}
use Rattle.trace_lines.proofs.harts.Harts.idle.Given as goal

abbrev pub invariant-loop : goal.invariant-loop
invariant-loop l = (length l.harts.items ≡ l.counter) × All (λ h. h ≡ idle_hart) l.harts.items
