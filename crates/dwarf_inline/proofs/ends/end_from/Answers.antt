use Rattle.std.proofs.Common.{arith}
use Rattle.dwarf_inline.proofs.EntryEnds.{end_behind, jump_step, stops_at_end, stops_at}
use Rattle.dwarf_inline.proofs.ends.end_from.Goals as goal
use Rattle.dwarf_inline.proofs.ends.end_from.Goals.{then-loop-end-test+else-depths-end, else-loop-end-test}

pub loop-end-init : goal.loop-end-init
loop-end-init c = record {
  behind = omega arith;
  within = let here = c.requires.here in omega arith;
  covered = omega (arith, end_behind c.args.depths.now c.args.index c.args.depth);
}

pub loop-end-smaller : goal.loop-end-smaller
loop-end-smaller c =
    let step = jump_step c.args.depths.now c.args.ends.now c.args.index c.args.depth c.loop-end.end _ c.requires.ends c.loop-end.invariant.behind c.loop-end-test.true c.if-depths-end.true c.loop-end.invariant.covered in
    let far = step.0 in
    let there = c.loop-end-test.true in
    omega arith

pub loop-end-preserved : goal.loop-end-preserved
loop-end-preserved c =
    let step = jump_step c.args.depths.now c.args.ends.now c.args.index c.args.depth c.loop-end.end _ c.requires.ends c.loop-end.invariant.behind c.loop-end-test.true c.if-depths-end.true c.loop-end.invariant.covered in
    record {
      behind = let far = step.0 in let near = c.loop-end.invariant.behind in omega arith;
      within = step.1;
      covered = step.2;
    }

pub returns : goal.returns
returns c =
    elim c.loop-end-test.branch [
      | then-loop-end-test+else-depths-end w ↦ stops_at c.args.depths.now c.args.index c.args.depth c.loop-end.end _ c.loop-end.invariant.behind w.if-depths-end.false c.loop-end.invariant.covered
      | else-loop-end-test w ↦ stops_at_end c.args.depths.now c.args.index c.args.depth c.loop-end.end c.requires.here w.loop-end-test.false c.loop-end.invariant.covered
    ]
