use Rattle.std.proofs.Common.{take}
use Rattle.prof_db.specs.private.Marks.{AreMarks}
use Rattle.prof_db.proofs.marks.marks.Given as goal

abbrev pub invariant-loop-number : goal.invariant-loop-number
invariant-loop-number l = AreMarks (take l.number-index l.numbers) l.count l.marks.items
