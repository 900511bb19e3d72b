use Rattle.std.proofs.Common.{take, map}
use Rattle.address_ranges.proofs.Ascending.{EndsAt}
use Rattle.address_ranges.proofs.ranges.ascending_steps.Given as goal

abbrev pub invariant-loop-index : goal.invariant-loop-index
invariant-loop-index g l = EndsAt l.steps.items l.end (take l.index (map g.T.HasRange.range_of l.items)) l.number
