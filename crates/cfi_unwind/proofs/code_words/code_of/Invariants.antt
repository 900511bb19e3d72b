use Rattle.std.proofs.Common.{◌≡◌, take}
use Rattle.cfi_unwind.specs.private.CodeWords.{code_of}
use Rattle.cfi_unwind.proofs.code_words.code_of.Given as goal

abbrev pub invariant-loop-segment : goal.invariant-loop-segment
invariant-loop-segment l = l.code ≡ code_of (take l.segment-index l.segments)
