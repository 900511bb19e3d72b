use Rattle.scope_find.proofs.PlaceSets.{inserted}
use Rattle.scope_find.proofs.KnownPlaces.{all_more}
use Rattle.scope_find.proofs.painted.all_places.Goals as goal

pub loop-place-preserved : goal.loop-place-preserved
loop-place-preserved c = all_more c.loop-place.place c.loop-place.places.keys c.insert.new.self.keys (inserted c.loop-place.places c.insert.new.self c.loop-place.place c.in_ok-insert.ensures.updates) c.loop-place.invariant
