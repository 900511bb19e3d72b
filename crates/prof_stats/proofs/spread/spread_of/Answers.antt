use Rattle.std.proofs.Common.{arith}
use Rattle.std.proofs.lemmas.List.{get_or_default}
use Rattle.prof_stats.proofs.Summaries.{all_summed, next_within, one_more, profiles_within, squares_within}
use Rattle.prof_stats.proofs.spread.spread_of.Goals as goal

pub add_value-stats-requires-clause-profiles : goal.add_value-stats-requires-clause-profiles
add_value-stats-requires-clause-profiles c = profiles_within c.args.kind c.args.entries.now c.loop-e.e-index c.loop-e.stats c.loop-e.invariant c.requires.few

pub add_value-stats-requires-clause-sum : goal.add_value-stats-requires-clause-sum
add_value-stats-requires-clause-sum c =
    next_within c.args.kind c.args.entries.now c.loop-e.e-index c.loop-e.stats c.loop-e.invariant _ c.loop-e-test.true (get_or_default _ _ _ _ c.loop-e-test.true) c.amount_of.result c.amount_of.ensures c.requires.small

pub add_value-stats-requires-clause-squares : goal.add_value-stats-requires-clause-squares
add_value-stats-requires-clause-squares c = squares_within c.args.kind c.args.entries.now c.loop-e.e-index c.loop-e.stats c.loop-e.invariant c.requires.small

pub loop-e-preserved : goal.loop-e-preserved
loop-e-preserved c =
    one_more c.args.kind c.args.entries.now c.loop-e.e-index c.loop-e.stats c.loop-e.invariant _ c.loop-e-test.true (get_or_default _ _ _ _ c.loop-e-test.true) c.amount_of.result c.add_value-stats.result c.amount_of.ensures c.add_value-stats.ensures

pub returns : goal.returns
returns c = all_summed c.args.kind c.args.entries.now c.loop-e.e-index c.loop-e.stats c.loop-e.invariant (let past = c.loop-e-test.false in omega (arith, past))
