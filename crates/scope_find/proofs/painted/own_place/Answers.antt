use Rattle.std.proofs.Common.{refl}
use Rattle.scope_find.proofs.PlaceSets.{inserted}
use Rattle.scope_find.proofs.PaintedPlaces.{painted_own}
use Rattle.scope_find.proofs.painted.own_place.Goals as goal

pub returns : goal.returns
returns c = painted_own c.args.number c.args.item c.args.painting.now _ c.args.place _ c.requires.there refl c.requires.kind refl refl refl (inserted c.args.painting.now.live c.insert.new.self c.args.place c.in_ok-insert.ensures.updates)
