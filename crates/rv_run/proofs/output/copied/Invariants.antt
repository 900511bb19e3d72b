use Rattle.std.proofs.Common.{◌≡◌}
use Rattle.rv_run.specs.Calls.{memory_bytes}
use Rattle.rv_run.proofs.output.copied.Given as goal

abbrev pub invariant-loop-offset : goal.invariant-loop-offset
invariant-loop-offset l = l.bytes.items ≡ memory_bytes l.space l.at l.offset
