use Rattle.std.proofs.Common.{map}
use Rattle.cfi_unwind.specs.private.UnwindRules.{saved_rule}
use Rattle.scope_types.specs.Memory.{HasWords}
use Rattle.cfi_unwind.proofs.FewRules.{RecoveringEach}
use Rattle.cfi_unwind.proofs.unwind_rule.load_each.Given as goal

abbrev pub invariant-loop-each : goal.invariant-loop-each
invariant-loop-each g l = record {
  slice : HasWords (g.L.Look.words l.memory) l.slice;
  recovering : RecoveringEach (g.L.Look.words l.memory) l.initial.registers l.cfa (map saved_rule l.saved) l.each-index l.registers;
}
