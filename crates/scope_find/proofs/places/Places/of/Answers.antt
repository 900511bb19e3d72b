use Rattle.std.proofs.Common.{ℕ, List, length, subst}
use Rattle.scope_find.specs.private.Painted.{ArePainted}
use Rattle.scope_find.proofs.KnownPlaces.{known_all}
use Rattle.scope_find.proofs.places.Places.of.Goals as goal

pub invariant_of-result : goal.invariant_of-result
invariant_of-result c =
    known_all c.args.structure.now c.in_ok-painting.ensures.whole c.in_order-addresses.result.items c.in_ok-painting.painting c.in_order-addresses.ensures.few c.in_order-addresses.ensures.rising
    (subst (λ (found : List ℕ). ArePainted c.args.structure.now found (length c.args.structure.now.items) c.in_ok-painting.painting) c.as_slice.ensures.value c.in_ok-painting.ensures.painted)
