use Rattle.cfi_unwind.specs.private.Index.{KeepsIndex}
use Rattle.cfi_table.specs.Frames.{descriptions, rules_at}
use Rattle.cfi_unwind.proofs.index.Index.add_fdes.Given as goal

abbrev pub invariant-loop-number : goal.invariant-loop-number
invariant-loop-number l = KeepsIndex (rules_at (descriptions l.table)) l.initial.self l.self
