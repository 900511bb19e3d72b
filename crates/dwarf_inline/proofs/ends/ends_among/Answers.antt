use Rattle.std.proofs.Common.{arith}
use Rattle.dwarf_inline.proofs.EntryEnds.{one_more_end}
use Rattle.dwarf_inline.proofs.ends.ends_among.Goals as goal

pub loop-index-preserved : goal.loop-index-preserved
loop-index-preserved c =
    let within = c.loop-index.invariant.within in
    let some = c.loop-index-test.true in
    record {
      within = omega arith;
      ends = one_more_end c.args.depths.now c.loop-index.ends.items c.loop-index.index _ c.end_from-end.result _ (omega arith) c.loop-index.invariant.ends (omega arith) c.end_from-end.ensures;
    }
