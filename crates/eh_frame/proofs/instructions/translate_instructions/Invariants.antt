use Rattle.std.proofs.Common.{length}
use Rattle.prof_bytes.specs.Reading.{left_of}
use Rattle.cfi_table.specs.private.Checking.{execute_forms}
use Rattle.eh_frame.proofs.Listed.{KeepsList}
use Rattle.eh_frame.proofs.instructions.translate_instructions.Given as goal

abbrev pub invariant-loop-checker : goal.invariant-loop-checker
invariant-loop-checker l = KeepsList execute_forms l.addresses l.factors l.initial.reader l.reader l.initial.checker l.checker l.initial.out.items l.out.items

abbrev pub decreases-loop-checker : goal.decreases-loop-checker
decreases-loop-checker l = length (left_of l.reader.at)
