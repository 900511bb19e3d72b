use Rattle.std.proofs.Common.{arith}
use Rattle.run_profile.proofs.EventTables.{tables_all, tables_more}
use Rattle.run_report.proofs.FewEvents.{few_events}
use Rattle.run_profile.proofs.FewRuns.{word_fits}
use Rattle.run_profile.proofs.both.with_tables.Goals as goal

pub overflow_cast-place : goal.overflow_cast-place
overflow_cast-place c =
    (let few = few_events c.args.content.now.events c.requires.profile.events in let many = c.requires.lines in let within = c.loop-place-test.true in word_fits _ (omega (arith, few, many, within)))

pub loop-place-preserved : goal.loop-place-preserved
loop-place-preserved c = tables_more c.args.content.now c.args.lines.now c.loop-place.place c.index-lines-place.result _ _ _ c.loop-place-test.true c.index-lines-place.is c.loop-place.invariant c.in_ok-whole.ensures

pub returns : goal.returns
returns c = (let past = c.loop-place-test.false in tables_all c.args.content.now c.args.lines.now c.loop-place.place _ _ (omega (arith, past)) c.loop-place.invariant)
