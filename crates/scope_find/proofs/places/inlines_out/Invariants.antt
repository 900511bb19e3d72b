use Rattle.scope_find.specs.private.KnownPlaces.{IsReadOut}
use Rattle.scope_find.proofs.places.inlines_out.Given as goal

abbrev pub invariant-loop-left : goal.invariant-loop-left
invariant-loop-left l = IsReadOut l.structure l.calls l.call l.at l.left l.inlines.items

abbrev pub decreases-loop-left : goal.decreases-loop-left
decreases-loop-left l = l.left
