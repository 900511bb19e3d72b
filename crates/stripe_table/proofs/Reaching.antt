-- What holds after each step, and that each atomic operation is a step.
use Rattle.std.proofs.Common.{◌≡◌, ◌≢◌, ℕ, ◌+◌, List, get_or, set, sym, refl, ◌∙◌, subst, arith}
use mathlib.Core.Option.{some}
use lib.ListN.{get_elem?}
use Rattle.atomic_table.specs.Table.{Me}
use Rattle.stripe_table.specs.Limits.{Chunks}
use Rattle.stripe_table.specs.declared.view.PassView.{PassView}
use Rattle.stripe_table.specs.declared.view.Last.TheVariants.{Nothing, Named}
use Rattle.stripe_table.specs.declared.stripe.Stripe.{Stripe}
use Rattle.stripe_table.proofs.Sums.{piece_without}
use Rattle.stripe_table.specs.Views.{without, after_join}
use Rattle.stripe_table.specs.Fits.{Fits}
use Rattle.stripe_table.specs.private.Kept.{Ruled}
use Rattle.stripe_table.specs.Machine.{MergeState, Step, claim, look, take, miss, puts, puts_back, meets, split, join, Reached, begins, goes}
use Rattle.stripe_table.proofs.Keeps as kept
use Rattle.stripe_table.proofs.Passes.{split_keeps, join_keeps, opens, zeros, blank, vacant, at_replicate}

abbrev M : Type 0
M = Me Stripe PassView

module _ (p : Chunks) where
  step_keeps : (s s' : MergeState) → Ruled p s → Step s s' → Ruled p s'
  step_keeps s s' k (claim id v i is) = subst (Ruled p) (sym is) (kept.claimed p s.words s.homes s.views id v k i.0 i.1)
  step_keeps s s' k (look id v t i free lt is) = subst (Ruled p) (sym is) (kept.looked_at p s.words s.homes s.views id t v k i.0 i.1 free lt)
  step_keeps s s' k (take id v t e x i free saw even lt hit home is) = subst (Ruled p) (sym is) (kept.taken_from p s.words s.homes s.views id t e v k i.0 i.1 free even lt hit x home)
  step_keeps s s' k (miss id v t e i saw ne is) = subst (Ruled p) (sym is) (kept.missed p s.words s.homes s.views id t e v k i.0 i.1 saw ne)
  step_keeps s s' k (puts id v t n x i has fits longer is) = let plan = (k.seats id v i.0).knows i.1 in
      subst (Ruled p) (sym is) (kept.laid p s.words s.homes s.views id v k i.0 i.1 t n has x (get_or x.names n 0) (subst (λ (z : Chunks). Fits z t (n + 1) x) plan fits))
  step_keeps s s' k (puts_back id v t n x i has fits same is) = let plan = (k.seats id v i.0).knows i.1 in
      subst (Ruled p) (sym is) (kept.homeward p s.words s.homes s.views id v k i.0 i.1 t n has x v.owed v.met Nothing (λ c a. omega arith) (λ a b e. cc) (subst (λ (z : Chunks). Fits z t n x) plan fits))
  step_keeps s s' k (meets id v t n q x i has fits same there is) = let plan = (k.seats id v i.0).knows i.1 in
      subst (Ruled p) (sym is) (kept.homeward p s.words s.homes s.views id v k i.0 i.1 t n has x (without (get_or x.names q 0) t v.owed) (v.met + 1) (Named t q (get_or x.names q 0)) (λ d a. piece_without d a (get_or x.names q 0) t v.owed) (λ a b e. cc) (subst (λ (z : Chunks). Fits z t n x) plan fits))
  step_keeps s s' k (split id v i f is) = subst (Ruled p) (sym is) (split_keeps p id v i.1 f s k i.0)
  step_keeps s s' k (join id other v w i f i' two free is) = subst (Ruled p) (sym is) (join_keeps p id other v w i.1 f i'.1 free s k i.0 two (set_at s.views id other v w (after_join v w) i'.0 two))
    where
      set_at : (vs : List PassView) (a b : ℕ) (v w x : PassView) → get_elem? vs b ≡ some w → b ≢ a → get_elem? (set vs a x) b ≡ some w
      set_at vs a b v w x e n = Rattle.atomic_table.proofs.Lists.set_else vs a b x n ∙ e

  pub core : (s : MergeState) → Reached p s → Ruled p s
  core s begins = opens p (blank 17) (Rattle.std.proofs.Common.replicate 16 vacant) refl (zeros 17) refl (λ i x e. at_replicate 16 i vacant x e)
  core s (goes r _ r_was st) = step_keeps r s (core r r_was) st
