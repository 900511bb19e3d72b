use Rattle.cfi_unwind.proofs.FewRules.{RecoveringEach}
use Rattle.cfi_unwind.proofs.unwind_rule.recover_each.Given as goal

abbrev pub invariant-loop-each : goal.invariant-loop-each
invariant-loop-each g l = RecoveringEach (g.L.Look.words l.memory) l.before l.cfa l.rules l.each-index l.registers
