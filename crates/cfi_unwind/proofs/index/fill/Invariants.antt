use Rattle.cfi_unwind.specs.private.Index.{IsFilled}
use Rattle.cfi_unwind.proofs.index.fill.Given as goal

abbrev pub invariant-loop-number : goal.invariant-loop-number
invariant-loop-number l = IsFilled l.initial.ids.items l.ids.items l.low l.number l.id
