use Rattle.scope_find.specs.private.Places.{AreHeldTaken}
use Rattle.scope_find.proofs.place_sets.take_held.Given as goal

abbrev pub invariant-loop-at : goal.invariant-loop-at
invariant-loop-at l = AreHeldTaken l.structure l.addresses l.fn.item l.at l.initial.places.keys l.places.keys l.taken.items
