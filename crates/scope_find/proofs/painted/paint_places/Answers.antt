use Rattle.std.proofs.Common.{◌<◌, length, refl, arith}
use Rattle.std.specs.Prelude.{slice_index_or}
use Rattle.std.proofs.lemmas.List.Elements.{Contains-get_or}
use Rattle.scope_find.proofs.PaintedPlaces.{painted_next}
use Rattle.scope_find.proofs.painted.paint_places.Goals as goal

pub paint_place-requires-clause-there : goal.paint_place-requires-clause-there
paint_place-requires-clause-there c =
    let there : slice_index_or c.args.taken.now c.loop-at.at 0 < length c.args.painting.now.places.items =
    c.requires.there (slice_index_or c.args.taken.now c.loop-at.at 0) (Contains-get_or c.args.taken.now c.loop-at.at 0 c.loop-at-test.true) in
    let long = c.loop-at.invariant.long in
    omega arith

pub loop-at-preserved : goal.loop-at-preserved
loop-at-preserved c =
    painted_next c.args.number c.args.item c.args.painting.now c.loop-at.painting c.paint_place.new.painting c.args.taken.now c.loop-at.at (slice_index_or c.args.taken.now c.loop-at.at 0) c.requires.once c.loop-at-test.true refl
    c.loop-at.invariant c.in_ok-paint_place.ensures
