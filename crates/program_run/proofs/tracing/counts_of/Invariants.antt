use Rattle.std.proofs.Common.{◌≡◌, length, map, take}
use Rattle.program_run.proofs.tracing.counts_of.Given as goal

abbrev pub invariant-loop-hart : goal.invariant-loop-hart
invariant-loop-hart l = l.counts.items ≡ map (λ h. length h.samples) (take l.hart l.trace.harts)
