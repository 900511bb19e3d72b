use Rattle.std.proofs.Common.{arith}
use Rattle.view_tables.proofs.Depths.{number_after}
use Rattle.view_tables.proofs.TableRows.{rows_grow}
use Rattle.view_tables.proofs.top.length.rows_length.Goals as goal

pub loop-number-preserved : goal.loop-number-preserved
loop-number-preserved c =
    let grown = rows_grow c.args.content.now c.loop-number.number c.requires.profile (let end = c.loop-number-test.true in let upto = c.requires.upto in omega (arith, end, upto)) in
    let more = c.loop-number.invariant.more in
    let long = c.loop-number.invariant.long in
    let one = c.row_length.ensures in
    let sum = c.saturating_add-sum.ensures in
    record {
      depth = rw (number_after c.loop-number.number) c.depth_after-depth.ensures.depth;
      more = omega (arith, grown, more);
      long = omega (arith, grown, more, long, one, sum);
    }
