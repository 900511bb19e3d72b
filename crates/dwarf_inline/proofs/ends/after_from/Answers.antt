use Rattle.std.proofs.Common.{arith}
use Rattle.dwarf_inline.proofs.KeptEntries.{after_step, after_stops, after_most}
use Rattle.dwarf_inline.proofs.ends.after_from.Goals as goal
use Rattle.dwarf_inline.proofs.ends.after_from.Goals.{then-loop-after-test+else-index-end, else-loop-after-test}

pub loop-after-init : goal.loop-after-init
loop-after-init c =
    let most = after_most c.args.info.now c.args.items.now c.args.k c.requires.items c.requires.here in
    let behind = most.0 in
    let here = c.requires.here in
    record {
      behind = omega arith;
      within = omega arith;
      covered = omega arith;
    }

pub loop-after-smaller : goal.loop-after-smaller
loop-after-smaller c =
    let step = after_step c.args.info.now c.args.items.now c.args.afters.now c.args.k c.loop-after.after c.args.end c.index.result c.index-items-after.result c.requires.items c.requires.afters c.requires.end c.loop-after.invariant.behind c.loop-after-test.true c.index-items-after.is c.index.ensures c.if-index-end.true in
    let far = step.0 in
    let there = c.loop-after-test.true in
    omega arith

pub loop-after-preserved : goal.loop-after-preserved
loop-after-preserved c =
    let step = after_step c.args.info.now c.args.items.now c.args.afters.now c.args.k c.loop-after.after c.args.end c.index.result c.index-items-after.result c.requires.items c.requires.afters c.requires.end c.loop-after.invariant.behind c.loop-after-test.true c.index-items-after.is c.index.ensures c.if-index-end.true in
    record {
      behind = let far = step.0 in let near = c.loop-after.invariant.behind in omega arith;
      within = step.1;
      covered = step.2;
    }

pub returns : goal.returns
returns c =
    elim c.loop-after-test.branch [
      | then-loop-after-test+else-index-end w ↦
          after_stops c.args.info.now c.args.items.now c.args.k c.loop-after.after c.args.end w.index.result w.index-items-after.result c.requires.items c.requires.end w.loop-after-test.true w.index-items-after.is w.index.ensures w.if-index-end.false c.loop-after.invariant.covered
      | else-loop-after-test w ↦
          let most = after_most c.args.info.now c.args.items.now c.args.k c.requires.items c.requires.here in
          let last = most.1 in
          let past = w.loop-after-test.false in
          let covered = c.loop-after.invariant.covered in
          omega arith
    ]
