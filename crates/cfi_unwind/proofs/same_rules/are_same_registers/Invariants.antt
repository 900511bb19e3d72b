use Rattle.std.proofs.Common.{◌≡◌, take}
use Rattle.cfi_unwind.proofs.same_rules.are_same_registers.Given as goal

abbrev pub invariant-loop-number : goal.invariant-loop-number
invariant-loop-number l = take l.number l.regs ≡ take l.number l.others
