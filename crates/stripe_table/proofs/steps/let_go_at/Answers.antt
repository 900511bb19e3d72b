use Rattle.std.proofs.Common.{◌<◌, ◌∙◌, ℕ, sym, refl, ap, subst, arith}
use Rattle.stripe_table.specs.Limits.{Chunks}
use Rattle.stripe_table.specs.Fits.{Fits, IsUnchanged}
use Rattle.atomic_table.specs.Table.{Me}
use Rattle.stripe_table.specs.declared.view.PassView.{PassView}
use Rattle.stripe_table.specs.declared.stripe.Stripe.{Stripe}
use Rattle.stripe_table.proofs.Laying.{fits_few, is_unchanged, ready}
use Rattle.stripe_table.proofs.steps.let_go_at.Goals as goal

pub put_back-requires : goal.put_back-requires
put_back-requires c = let h = c.requires.held in let x = h.0 in let e = c.held_count-count.ensures in let k = e.count x h.1.2 in let same = e.same in let plan = c.requires.plan in let few = fits_few _ _ _ _ h.2 in let l = plan.1.chunks in (
  plan.0,
  (let z : c.held_count-count.result < 4294967296 = omega arith in z),
  (
    x,
    ready _ _ _ _ _ _ x x h.1 same.0 (ap (λ m. m.0) same.1) (ap (λ m. m.1) same.1 ∙ h.1.2) k,
    subst (λ (z : Chunks × ℕ). Fits z.0 c.args.stripe z.1 x) (λ i. ((sym same.1 i).0.plan, sym k i)) h.2,
    subst (λ (m : Me Stripe PassView). IsUnchanged m.0.taken x) (sym same.1) (is_unchanged x x _ h.3 refl),
  ),
)
