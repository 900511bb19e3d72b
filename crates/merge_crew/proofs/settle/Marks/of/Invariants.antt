use Rattle.std.proofs.Common.{take}
use Rattle.merge_crew.specs.private.Settling.{MarksChunks}
use Rattle.merge_crew.proofs.settle.Marks.of.Given as goal

abbrev pub invariant-loop-i : goal.invariant-loop-i
invariant-loop-i l = MarksChunks l.chunks (take l.i l.names) l.marks.items
