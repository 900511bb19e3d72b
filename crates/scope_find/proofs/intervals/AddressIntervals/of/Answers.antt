use Rattle.std.proofs.Common.{◌≤◌, length, arith}
use Rattle.scope_find.proofs.IntervalsMade.{swept_first, swept_all}
use Rattle.scope_find.proofs.intervals.AddressIntervals.of.Goals as goal

pub loop-index-init : goal.loop-index-init
loop-index-init c =
    swept_first c.args.structure.now c.in_ok-events.events.items c.new-held.result.keys c.in_ok-intervals.intervals.items c.in_ok-calls.calls.all.items c.in_ok-calls.calls.latest.items c.in_ok-events.ensures.events c.new-held.ensures.empty c.in_ok-intervals.ensures.items
    c.in_ok-calls.ensures.none c.in_ok-calls.ensures.long c.in_ok-calls.ensures.latest

pub invariant_of-result : goal.invariant_of-result
invariant_of-result c = record {
  whole = c.in_ok-events.ensures.whole;
  intervals_are =
      swept_all c.args.structure.now c.in_ok-events.events.items c.loop-index.index c.loop-index.held.keys c.loop-index.intervals.items c.loop-index.calls.all.items c.in_order.result.items c.loop-index.calls.latest.items
      (let n = c.in_ok-events.events.ok.0 in let l : length c.in_ok-events.events.items ≤ c.loop-index.index = omega arith in l) c.loop-index.invariant c.in_order.ensures;
  in_order = c.in_order.ensures.in_order;
}
