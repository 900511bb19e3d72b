use Rattle.cfi_unwind.proofs.Recovering.{Recovering}
use Rattle.cfi_unwind.proofs.caller.recovered_all.Given as goal

abbrev pub invariant-loop-number : goal.invariant-loop-number
invariant-loop-number g l = Recovering (g.L.Look.words l.memory) l.registers l.cfa l.rules l.number l.values
