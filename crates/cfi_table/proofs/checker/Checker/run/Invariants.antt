use Rattle.std.proofs.Common.{length}
use Rattle.prof_bytes.specs.Reading.{left_of}
use Rattle.cfi_table.specs.private.Checking.{execute_forms, never}
use Rattle.cfi_table.proofs.Runs.{Keeps}
use Rattle.cfi_table.proofs.checker.Checker.run.Given as goal

abbrev pub invariant-loop-self : goal.invariant-loop-self
invariant-loop-self l = Keeps execute_forms never l.factors l.initial.reader l.reader l.initial.self l.self

abbrev pub decreases-loop-self : goal.decreases-loop-self
decreases-loop-self l = length (left_of l.reader.at)
