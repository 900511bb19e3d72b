use Rattle.std.proofs.Common.{◌≡◌, ◌≤◌, length, take}
use Rattle.cfi_unwind.proofs.FewRules.{not_kept_to}
use Rattle.cfi_unwind.proofs.prepare.not_kept.Given as goal

abbrev pub invariant-loop-register : goal.invariant-loop-register
invariant-loop-register l = record {
  all : length l.registers ≡ 32;
  few : l.count ≤ l.register;
  so_far : take l.count l.registers ≡ not_kept_to l.rules l.register;
}
