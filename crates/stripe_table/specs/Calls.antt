-- What the calls do to a pass.
use Rattle.std.specs.Prelude.{◌≡◌, ℕ}
use Rattle.stripe_table.specs.declared.view.PassView.{PassView}
use Rattle.stripe_table.specs.declared.stripe.Stripe.{Stripe}
use Rattle.stripe_table.specs.declared.table.Take.{Take}
use Rattle.stripe_table.specs.declared.table.Take.TheVariants.{Held, Busy}
use Rattle.stripe_table.specs.declared.table.Laid.{Laid}
use Rattle.stripe_table.specs.declared.table.Laid.TheVariants.{Merged, Present, Memory}
use Rattle.stripe_table.specs.declared.offer.Offered.{Offered}
use Rattle.stripe_table.specs.declared.offer.Offered.TheVariants as offered
use Rattle.stripe_table.specs.Views.{after_busy, after_take, after_put, after_put_back, after_present}

-- stripe s was taken, as it was; or it was busy, with the word looked at and the word found
abbrev pub Took : ℕ → PassView → PassView → Take → Type 0
Took s v w Held = (e : ℕ) × (x : Stripe) × (w ≡ after_take s e x v)
Took s v w (Busy l f) = w ≡ after_busy s l f v

-- the piece of chunk c was merged into stripe s, which had k pieces; or the stripe has it at index p; or it was put
-- back as it was
abbrev pub LaidAs : ℕ → ℕ → ℕ → PassView → PassView → Laid → Type 0
LaidAs s k c v w Merged = w ≡ after_put s k c v
LaidAs s k c v w (Present p) = w ≡ after_present s p c v
LaidAs s k c v w (Memory failed) = w ≡ after_put_back v

-- the piece of chunk c was merged into stripe s; or the stripe has it at index p; or it was busy; or it was put back as
-- it was
abbrev pub OfferedAs : ℕ → ℕ → PassView → PassView → Offered → Type 0
OfferedAs s c v w offered.Merged = (k : ℕ) × (w ≡ after_put s k c v)
OfferedAs s c v w (offered.Present p) = w ≡ after_present s p c v
OfferedAs s c v w (offered.Busy l f) = w ≡ after_busy s l f v
OfferedAs s c v w (offered.Memory failed) = w ≡ after_put_back v
