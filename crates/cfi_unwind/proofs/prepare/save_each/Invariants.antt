use Rattle.std.proofs.Common.{◌-◌, ◌≤◌}
use Rattle.cfi_unwind.proofs.FewRules.{SavedTo}
use Rattle.cfi_unwind.proofs.prepare.save_each.Given as goal

abbrev pub invariant-loop-register : goal.invariant-loop-register
invariant-loop-register l = record {
  low : l.from ≤ 32;
  saved : SavedTo l.regs l.from l.saved;
}

abbrev pub decreases-loop-register : goal.decreases-loop-register
decreases-loop-register l = 32 - l.from
