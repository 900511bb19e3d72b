use Rattle.std.proofs.Common.{◌≢◌, ◌<◌, ℕ, List, length, get_or, sym, subst}
use Rattle.std.specs.List.{Contains}
use Rattle.scope_find.specs.private.Painted.{ArePaintedBy}
use Rattle.scope_find.proofs.Painting.{taken_within, taken_once, painted_item}
use Rattle.scope_find.proofs.painted.paint_item.Goals as goal

pub paint_places-requires-clause-there : goal.paint_places-requires-clause-there
paint_places-requires-clause-there c = subst (λ (ts : List ℕ). (k : ℕ) → Contains ts k → k < length c.take_for.new.painting.places.items) (sym c.as_slice.ensures.value)
    (taken_within c.args.structure.now c.args.addresses.now c.args.number c.subroutine-item.result c.args.painting.now c.take_for.new.painting c.in_ok-taken.taken.items c.requires.painted c.in_ok-taken.ensures)

pub paint_places-requires-clause-once : goal.paint_places-requires-clause-once
paint_places-requires-clause-once c = subst (λ (ts : List ℕ). (m n : ℕ) → m < n → n < length ts → get_or ts m 0 ≢ get_or ts n 0) (sym c.as_slice.ensures.value)
    (taken_once c.args.structure.now c.args.addresses.now c.args.number c.subroutine-item.result c.args.painting.now c.take_for.new.painting c.in_ok-taken.taken.items c.requires.painted c.in_ok-taken.ensures)

pub returns : goal.returns
returns c =
    painted_item c.args.structure.now c.requires.whole c.args.addresses.now c.args.number c.subroutine-item.result c.subroutine-item.ensures c.args.painting.now c.take_for.new.painting c.paint_places.new.painting c.in_ok-taken.taken.items c.requires.painted c.in_ok-taken.ensures
    (subst (λ (ts : List ℕ). ArePaintedBy c.args.number c.subroutine-item.result c.take_for.new.painting c.paint_places.new.painting ts) c.as_slice.ensures.value c.in_ok-paint_places.ensures)
