use Rattle.std.proofs.Common.{length}
use Rattle.prof_bytes.specs.Reading.{left_of}
use Rattle.cfi_table.proofs.Resuming.{Running}
use Rattle.cfi_table.proofs.interpreter.Interpreter.run.Given as goal

abbrev pub invariant-loop-limit : goal.invariant-loop-limit
invariant-loop-limit l = Running l.limit l.initial' l.factors l.initial.reader l.reader l.initial.self l.self

abbrev pub decreases-loop-limit : goal.decreases-loop-limit
decreases-loop-limit l = length (left_of l.reader.at)
