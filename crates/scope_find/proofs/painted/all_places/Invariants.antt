use Rattle.scope_find.specs.private.Places.{AreAllBelow}
use Rattle.scope_find.proofs.painted.all_places.Given as goal

abbrev pub invariant-loop-place : goal.invariant-loop-place
invariant-loop-place l = AreAllBelow l.place l.places.keys
