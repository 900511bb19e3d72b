use Rattle.std.proofs.Common.{◌≡◌, ◌<◌, ◌+◌, ◌∙◌, ℕ, [], length, get_or, sym, refl, ap, subst, arith}
use Rattle.atomic_table.specs.Table.{Me}
use Rattle.stripe_table.specs.Limits.{Chunks}
use Rattle.stripe_table.specs.declared.view.PassView.{PassView}
use Rattle.stripe_table.specs.declared.stripe.Stripe.{Stripe}
use Rattle.stripe_table.specs.Views.{after_put, after_present}
use Rattle.stripe_table.specs.Fits.{Fits, IsLonger, IsUnchanged}
use Rattle.stripe_table.proofs.Laying.{fits_few, longer, pointed, ready, last_name, room, is_longer, is_pointing, is_unchanged}
use Rattle.stripe_table.proofs.steps.lay_at.Goals as goal

pub add_to_held-requires : goal.add_to_held-requires
add_to_held-requires c = let h = c.requires.held in let x = h.0 in let plan = c.requires.plan in let few = fits_few _ _ _ _ h.2 in let l = plan.0.chunks in
    record { held = (x, length x.names, h.1, refl, (let z : length x.names < 4294967296 = omega arith in z), λ missing. room _ _ _ x plan.0 h.2 missing plan.1) }

pub put_longer-requires : goal.put_longer-requires
put_longer-requires c = let h = c.requires.held in let x = h.0 in let e = c.in-Added.ensures in let q = e.slot x h.1.2 in let n = q.2 in let same = e.same in let plan = c.requires.plan in
    let f = longer _ c.args.piece.now _ x q.0 h.2 n.1 plan.1 n.2 in (
      plan.1.stripe,
      (let a = n.0 in let few = fits_few _ _ _ _ h.2 in let l = plan.0.chunks in let z : c.in-Added.count < 4294967296 = omega arith in z),
      (q.0, ready _ _ _ _ _ _ x q.0 h.1 same.0 same.1 q.1 n.0, subst (λ (z : Chunks × ℕ). Fits z.0 c.args.piece.now.stripe (z.1 + 1) q.0) (λ i. ((sym same.1 i).plan, sym n.0 i)) f, subst (λ (v : PassView). IsLonger v.plan c.args.piece.now.stripe (get_or q.0.names c.in-Added.count 0) v.taken q.0) (sym same.1) (is_longer _ c.args.piece.now x q.0 _ c.in-Added.count h.3 plan.1 n.2 n.0)),
    )

pub put_present-requires : goal.put_present-requires
put_present-requires c = let h = c.requires.held in let x = h.0 in let e = c.in-There.ensures in let q = e.slot x h.1.2 in let n = q.2 in let same = e.same in let plan = c.requires.plan in
    let f = pointed _ _ _ _ x q.0 h.2 n.3 in let at : q.0.index ≡ c.in-There.index = ap (λ (z : Stripe). z.index) n.3 in (
      plan.1.stripe,
      (let a = n.0 in let few = fits_few _ _ _ _ h.2 in let l = plan.0.chunks in let z : c.in-There.count < 4294967296 = omega arith in z),
      (q.0, ready _ _ _ _ _ _ x q.0 h.1 same.0 same.1 q.1 n.0, subst (λ (z : Chunks × ℕ). Fits z.0 c.args.piece.now.stripe z.1 q.0) (λ i. ((sym same.1 i).plan, sym n.0 i)) f, subst (λ (v : PassView). IsUnchanged v.taken q.0) (sym same.1) (is_pointing _ x q.0 _ h.3 n.3), (let a = n.0 in let b = n.1 in omega arith)),
    )

pub put_back-requires : goal.put_back-requires
put_back-requires c = let h = c.requires.held in let x = h.0 in let e = c.in-Failed.ensures in let q = e.slot x h.1.2 in let n = q.2 in let same = e.same in let plan = c.requires.plan in
    let f = subst (λ (z : Stripe). Fits c.args.seat.now.me.0.plan c.args.piece.now.stripe (length x.names) z) (sym n.1) h.2 in (
      plan.1.stripe,
      (let a = n.0 in let few = fits_few _ _ _ _ h.2 in let l = plan.0.chunks in let z : c.in-Failed.count < 4294967296 = omega arith in z),
      (q.0, ready _ _ _ _ _ _ x q.0 h.1 same.0 same.1 q.1 n.0, subst (λ (z : Chunks × ℕ). Fits z.0 c.args.piece.now.stripe z.1 q.0) (λ i. ((sym same.1 i).plan, sym n.0 i)) f, subst (λ (v : PassView). IsUnchanged v.taken q.0) (sym same.1) (is_unchanged x q.0 _ h.3 n.1)),
    )

pub returns-in-Added : goal.returns-in-Added
returns-in-Added c = let e = c.in-Added.ensures in let same = e.same in let z = c.put_longer.ensures in (
  (z.0.0 ∙ same.0.0, z.0.1 ∙ same.0.1),
  λ x at. let q = e.slot x at in let n = q.2 in z.1 q.0 q.1 ∙ λ i. let m : Me Stripe PassView = (after_put c.args.piece.now.stripe (n.0 i) (last_name x q.0 c.args.piece.now.chunk c.in-Added.count n.2.names n.0 i) (same.1 i), []) in m,
)

pub returns-in-There : goal.returns-in-There
returns-in-There c = let e = c.in-There.ensures in let same = e.same in let z = c.put_present.ensures in (
  (z.0.0 ∙ same.0.0, z.0.1 ∙ same.0.1),
  λ x at. let q = e.slot x at in let n = q.2 in z.1 q.0 q.1 ∙ λ i. let m : Me Stripe PassView = (after_present c.args.piece.now.stripe (n.3 i).index ((ap (λ (y : Stripe). get_or y.names y.index 0) n.3 ∙ n.2) i) (same.1 i), []) in m,
)
