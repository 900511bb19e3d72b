use Rattle.std.specs.Prelude.{map}
use Rattle.address_ranges.proofs.Steps.{first_held}
use Rattle.address_ranges.proofs.ranges.RangeTable.is_first.Goals as goal

pub returns : goal.returns
returns g c = rw (← c.self.view_is) (first_held c.is_held.result (map g.T.HasRange.range_of c.self.inside.items.items) c.self.inside.steps.items c.args.range.start c.args.range.end c.args.index c.self.invariant (rw (c.deref.ensures.value, c.from-low.ensures) at c.is_held.ensures))
