-- What the calls leave of a pass, for the tests' helpers.
use Rattle.std.proofs.Common.{◌≡◌, ℕ, ◌/◌, ◌<◌, sym, refl, ap, ◌∙◌, subst}
use Rattle.stripe_table.specs.declared.view.PassView.{PassView}
use Rattle.stripe_table.specs.declared.view.Hold.TheVariants.{Free, Holds}
use Rattle.stripe_table.specs.declared.table.Take.{Take}
use Rattle.stripe_table.specs.declared.table.Take.TheVariants.{Held, Busy}
use Rattle.stripe_table.specs.declared.table.Laid.{Laid}
use Rattle.stripe_table.specs.declared.table.Laid.TheVariants.{Merged, Present, Memory}
use Rattle.stripe_table.specs.declared.offer.Offered.{Offered}
use Rattle.stripe_table.specs.declared.offer.Offered.TheVariants as offered
use Rattle.stripe_table.specs.Calls.{Took, LaidAs, OfferedAs}
use Rattle.stripe_table.specs.Views.{owes}
use Rattle.stripe_table.specs.private.Tested.{KeepsDistance}

kept : (v u w : PassView) → w ≡ u → KeepsDistance v u → KeepsDistance v w
kept v u w is k = subst (KeepsDistance v) (sym is) k

pub keeps_claim : (v u w : PassView) → w ≡ u → KeepsDistance v u → (u.hold ≡ v.hold) → KeepsDistance v w × (w.hold ≡ v.hold)
keeps_claim v u w is k h = (kept v u w is k, ap (λ (z : PassView). z.hold) is ∙ h)

pub keeps_took : (s : ℕ) (v w : PassView) (r : Take) → Took s v w r → KeepsDistance v w
keeps_took s v w Held o = kept v _ w o.2 (refl, refl, refl)
keeps_took s v w (Busy l f) o = kept v _ w o (refl, refl, refl)

pub took_held : (s : ℕ) (v w : PassView) (r : Take) → Took s v w r → r ≡ Held → (k : ℕ) × (w.hold ≡ Holds s k)
took_held s v w r o is = let q = subst (Took s v w) is o in (q.0 / 2, ap (λ (z : PassView). z.hold) q.2)

pub took_busy : (s : ℕ) (v w : PassView) (r : Take) → Took s v w r → v.hold ≡ Free → (l f : ℕ) → r ≡ Busy l f → w.hold ≡ Free
took_busy s v w r o free l f is = let q = subst (Took s v w) is o in ap (λ (z : PassView). z.hold) q ∙ free

pub keeps_laid : (s k c : ℕ) (v w : PassView) (r : Laid) → LaidAs s k c v w r → KeepsDistance v w × (w.hold ≡ Free)
keeps_laid s k c v w Merged o = (kept v _ w o (refl, refl, refl), ap (λ (z : PassView). z.hold) o)
keeps_laid s k c v w (Present p) o = (kept v _ w o (refl, refl, refl), ap (λ (z : PassView). z.hold) o)
keeps_laid s k c v w (Memory failed) o = (kept v _ w o (refl, refl, refl), ap (λ (z : PassView). z.hold) o)

pub keeps_offered : (s c : ℕ) (v w : PassView) (r : Offered) → OfferedAs s c v w r → KeepsDistance v w
keeps_offered s c v w offered.Merged o = kept v _ w o.1 (refl, refl, refl)
keeps_offered s c v w (offered.Present p) o = kept v _ w o (refl, refl, refl)
keeps_offered s c v w (offered.Busy l f) o = kept v _ w o (refl, refl, refl)
keeps_offered s c v w (offered.Memory failed) o = kept v _ w o (refl, refl, refl)

pub busy_owed : (s c d t : ℕ) (v w : PassView) (r : Offered) → OfferedAs s c v w r → 0 < owes d t v → (l f : ℕ) → r ≡ offered.Busy l f → 0 < owes d t w
busy_owed s c d t v w r o owed l f is = let q = subst (OfferedAs s c v w) is o in subst (λ (n : ℕ). 0 < n) (sym (ap (owes d t) q)) owed
