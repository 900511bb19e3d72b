use Rattle.std.proofs.Common.{refl, sym, arith}
use Rattle.std.proofs.lemmas.List.{get_or_read}
use Rattle.scope_find.specs.private.Painted.{blank_place}
use Rattle.scope_find.proofs.PlaceSets.{inserted}
use Rattle.scope_find.proofs.PaintedPlaces.{painted_call}
use Rattle.scope_find.proofs.painted.call_place.Goals as goal

pub returns : goal.returns
returns c =
    painted_call c.args.number c.args.item c.args.painting.now _ c.args.place _ c.requires.there refl c.index-old.result.now c.requires.kind (sym (get_or_read c.args.painting.now.places.items c.args.place c.index-old.result.now c.requires.there c.index-old.ensures blank_place))
    (let past = c.if-old-number.false in omega arith) refl refl (λ few. let s = c.saturating_add.ensures in omega arith) c.in_ok-call.ensures.call refl c.in_ok-call.ensures.keeps (inserted c.args.painting.now.live c.insert.new.self c.args.place c.in_ok-insert.ensures.updates)
