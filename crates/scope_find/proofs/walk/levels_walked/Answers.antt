use Rattle.std.proofs.Common.{◌≤◌, ◌<◌, arith}
use Rattle.scope_find.proofs.Walking.{one_deeper}
use Rattle.scope_find.proofs.walk.levels_walked.Goals as goal

pub loop-next-preserved : goal.loop-next-preserved
loop-next-preserved c =
    let few : c.loop-next.levels ≤ c.loop-next.item = c.loop-next.invariant.few in
    let above : c.loop-next.item < c.in-Some-next_walked.next = c.in-Some-next_walked.ensures.above in
    record {
      there = c.in-Some-next_walked.ensures.within;
      few = omega arith;
      told = one_deeper c.loop-next.levels _ _ _ _ c.loop-next.invariant.told c.in-Some-next_walked.ensures.next;
    }
