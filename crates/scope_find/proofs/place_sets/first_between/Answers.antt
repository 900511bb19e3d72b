use Rattle.scope_find.proofs.PlaceSets.{some_place, far_place, no_place}
use Rattle.scope_find.proofs.place_sets.first_between.Goals as goal

pub returns-in-Some : goal.returns-in-Some
returns-in-Some c = some_place c.args.places.now c.args.low c.args.high c.in-Some.place.now c.range.result c.next.new.self c.in-Some.ensures.steps c.if-place-high.true (c.range.ensures.in_range tt)

pub returns-in_default : goal.returns-in_default
returns-in_default c = far_place c.args.places.now c.args.low c.args.high c.in-Some.place.now c.range.result c.next.new.self c.in-Some.ensures.steps c.if-place-high.false (c.range.ensures.in_range tt)

pub returns-in_default-2 : goal.returns-in_default-2
returns-in_default-2 c = no_place c.args.places.now c.args.low c.args.high c.range.result (rw c.in_default.is at c.next.ensures.steps).0 (c.range.ensures.in_range tt)
