use Rattle.std.proofs.Common.{length, arith}
use Rattle.run_profile.proofs.EventLines.{line_more, lines_all, many_more}
use Rattle.run_profile.proofs.events.counted_lines.Goals as goal

pub loop-place-preserved : goal.loop-place-preserved
loop-place-preserved c = (
  λ samples are all. line_more (length c.args.events.now) samples c.args.events.now c.loop-place.place _ _ _ _ c.loop-place-test.true (c.loop-place.invariant.0 samples are all) (c.in_ok-line.ensures samples are all) c.in_ok-push.ensures.items,
  many_more _ _ _ c.loop-place.place c.loop-place.invariant.1 c.in_ok-push.ensures.items,
)

pub returns-clause-lines : goal.returns-clause-lines
returns-clause-lines c samples are all =
    let past = c.loop-place-test.false in
    lines_all (length c.args.events.now) samples c.args.events.now c.loop-place.place _ (omega (arith, past)) (c.loop-place.invariant.0 samples are all)

pub returns-clause-many : goal.returns-clause-many
returns-clause-many c = (let past = c.loop-place-test.false in let end = c.loop-place.auto.place-end in let many = c.loop-place.invariant.1 in omega (arith, past, end, many))
