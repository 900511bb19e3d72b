use Rattle.std.proofs.Common.{◌≡◌, ℕ, List, [], map, sym, subst}
use Rattle.std.proofs.lemmas.Result.{IfOk-weaker}
use Rattle.scope_find.specs.declared.painted.CallNode.{CallNode}
use Rattle.scope_find.specs.Found.{inline_scope}
use Rattle.scope_find.specs.Views.{inline_view}
use Rattle.scope_find.specs.private.KnownPlaces.{KnownPlaces, AreScopesAt, HasCallsOut, HasInlinesAt}
use Rattle.scope_find.specs.private.Painted.{AreCallsOut, calls_before}
use Rattle.scope_find.specs.private.Places.{IsPlaceOf}
use Rattle.scope_find.proofs.KnownPlaces.{known_here, calls_here, inlines_here}
use Rattle.scope_find.proofs.places.Places.inlines_at.Goals as goal

pub inlines_out-requires : goal.inlines_out-requires
inlines_out-requires c =
    let s = c.self.inside.structure.now in
    let addresses = c.self.inside.addresses.items in
    let calls = c.self.inside.calls.items in
    let there : IsPlaceOf addresses c.args.address c.args.place = subst (λ (p : KnownPlaces). IsPlaceOf p.addresses c.args.address c.args.place) (sym c.self.view_is) c.requires in
    let known = known_here s addresses c.self.inside.places.items calls c.args.place c.index-known.result.now c.self.invariant there.within c.index-known.ensures in
    let at : AreScopesAt s c.args.address calls c.index-known.result.now = subst (λ (a : ℕ). AreScopesAt s a calls c.index-known.result.now) there.is known in
    subst (λ (ns : List CallNode). HasCallsOut s ns c.index-known.result.now.call c.index-known.result.now.levels) (sym c.as_slice.ensures.value) (calls_here s c.args.address calls c.index-known.result.now at c.if-known.false)

pub returns : goal.returns
returns c =
    let s = c.self.inside.structure.now in
    let addresses = c.self.inside.addresses.items in
    let calls = c.self.inside.calls.items in
    let there : IsPlaceOf addresses c.args.address c.args.place = subst (λ (p : KnownPlaces). IsPlaceOf p.addresses c.args.address c.args.place) (sym c.self.view_is) c.requires in
    let known = known_here s addresses c.self.inside.places.items calls c.args.place c.index-known.result.now c.self.invariant there.within c.index-known.ensures in
    let at : AreScopesAt s c.args.address calls c.index-known.result.now = subst (λ (a : ℕ). AreScopesAt s a calls c.index-known.result.now) there.is known in
    IfOk-weaker c.inlines_out.result (λ inlines. (numbers : List ℕ) → AreCallsOut c.as_slice.result.now c.index-known.result.now.call numbers → map inline_view inlines.items ≡ map inline_scope (calls_before s numbers []))
    (λ inlines. HasInlinesAt c.args.self.now.structure c.args.address inlines.items)
    (λ inlines all.
    subst (λ (p : KnownPlaces). HasInlinesAt p.structure c.args.address inlines.items) c.self.view_is
    (inlines_here s c.args.address calls c.index-known.result.now at inlines.items c.if-known.false
    (λ numbers is. all numbers (subst (λ (ns : List CallNode). AreCallsOut ns c.index-known.result.now.call numbers) (sym c.as_slice.ensures.value) is))))
    c.inlines_out.ensures
