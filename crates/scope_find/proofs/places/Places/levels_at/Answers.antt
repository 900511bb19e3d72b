use Rattle.std.proofs.Common.{◌<◌, length, sym, subst}
use Rattle.scope_find.specs.private.KnownPlaces.{KnownPlaces, HasLevelsAt}
use Rattle.scope_find.specs.private.Places.{address_at}
use Rattle.scope_find.proofs.KnownPlaces.{known_here, levels_here}
use Rattle.scope_find.proofs.places.Places.levels_at.Goals as goal

pub returns : goal.returns
returns c =
    let s = c.self.inside.structure.now in
    let addresses = c.self.inside.addresses.items in
    let calls = c.self.inside.calls.items in
    let within : c.args.place < length addresses = subst (λ (p : KnownPlaces). c.args.place < length p.addresses) (sym c.self.view_is) c.requires in
    let known = known_here s addresses c.self.inside.places.items calls c.args.place c.index.result.now c.self.invariant within c.index.ensures in
    subst (λ (p : KnownPlaces). HasLevelsAt p.structure (address_at p.addresses c.args.place) c.index.result.now.levels) c.self.view_is (levels_here s (address_at addresses c.args.place) calls c.index.result.now known)
