use Rattle.std.proofs.Common.{◌+◌, take, sym, subst}
use Rattle.merge_crew.specs.private.Settling.{MarksChunks}
use Rattle.merge_crew.proofs.Marking.{marked_more}
use Rattle.merge_crew.proofs.settle.Marks.of.Goals as goal

pub loop-i-preserved : goal.loop-i-preserved
loop-i-preserved c = subst (MarksChunks c.args.chunks (take (c.loop-i.i + 1) c.args.names.now)) (sym c.mark.ensures) (marked_more c.args.chunks c.args.names.now c.loop-i.i 0 c.loop-i.marks.items c.loop-i-test.true c.loop-i.invariant)
