use Rattle.std.proofs.Common.{◌∙◌}
use Rattle.address_ranges.proofs.Ascending.{nothing_yet, next_item, all_ranges}
use Rattle.address_ranges.proofs.ranges.ascending_steps.Goals as goal

pub loop-index-init : goal.loop-index-init
loop-index-init g c = rw c.in_ok-steps.ensures.items (nothing_yet c.args.number)

pub loop-index-preserved : goal.loop-index-preserved
loop-index-preserved g c =
    next_item g.T.HasRange.range_of c.args.items.now c.loop-index.steps.items c.in_ok-steps-2.steps.items c.loop-index.end c.args.number c.loop-index.index c.from-start.result c.index-items-index.result c.range-range.result
    c.loop-index.invariant c.from-start.ensures c.if-start-end.false c.if-range-start.false c.loop-index-test.true c.index-items-index.is c.range-range.ensures c.in_ok-steps-2.ensures

pub returns-clause-ascending : goal.returns-clause-ascending
returns-clause-ascending g c = rw c.in_ok-push.ensures.items c.loop-index.invariant.ascending

pub returns-clause-holders : goal.returns-clause-holders
returns-clause-holders g c address = rw c.in_ok-push.ensures.items (c.loop-index.invariant.holders address ∙ all_ranges g.T.HasRange.range_of c.args.items.now c.loop-index.index c.args.number address c.loop-index-test.false)
