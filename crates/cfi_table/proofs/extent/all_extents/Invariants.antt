use Rattle.std.proofs.Common.{length}
use Rattle.prof_bytes.specs.Reading.{left_of}
use Rattle.cfi_table.proofs.Chains.{KeepsChain}
use Rattle.cfi_table.proofs.extent.all_extents.Given as goal

abbrev pub invariant-loop-reader : goal.invariant-loop-reader
invariant-loop-reader l = KeepsChain l.zero_length l.section l.reader l.extents.items

abbrev pub decreases-loop-reader : goal.decreases-loop-reader
decreases-loop-reader l = length (left_of l.reader.at)
