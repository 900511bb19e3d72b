use Rattle.std.proofs.Common.{arith}
use Rattle.std.proofs.lemmas.Result.{on_ok_weaker}
use Rattle.view_tables.proofs.Blanks.{all_spaces, block_more}
use Rattle.view_tables.proofs.cells.put_spaces.Goals as goal

pub loop-preserved : goal.loop-preserved
loop-preserved c = block_more c.args.out.now.items c.loop.out.items c.put_few_spaces.new.out.items c.loop.counter c.loop.invariant c.in_ok-put_few_spaces.ensures

pub returns : goal.returns
returns c =
    let past = c.loop-test.false in
    let end = c.loop.auto.counter-end in
    on_ok_weaker c.put_few_spaces-2.result (all_spaces c.args.out.now.items c.loop.out.items c.put_few_spaces-2.new.out.items c.args.count c.loop.counter (omega (arith, past, end)) c.loop.invariant) c.put_few_spaces-2.ensures
