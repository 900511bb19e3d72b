-- What a take or a lay leaves a seat with.
use Rattle.std.specs.Prelude.{◌≡◌, ℕ, ◌/◌, [], ◌∷◌}
use Rattle.atomic_table.specs.Table.{Me}
use Rattle.stripe_table.specs.declared.view.PassView.{PassView}
use Rattle.stripe_table.specs.declared.stripe.Stripe.{Stripe}
use Rattle.stripe_table.specs.declared.table.Take.{Take}
use Rattle.stripe_table.specs.declared.table.Take.TheVariants.{Held, Busy}
use Rattle.stripe_table.specs.declared.table.Laid.{Laid}
use Rattle.stripe_table.specs.declared.table.Laid.TheVariants.{Merged, Present, Memory}
use Rattle.stripe_table.specs.Fits.{Fits}
use Rattle.stripe_table.specs.Views.{after_busy, after_take, after_put, after_put_back, after_present}

-- stripe s was taken, and lies in hand; or it was busy
abbrev pub TookSlot : ℕ → PassView → Me Stripe PassView → Take → Type 0
TookSlot s v m Held = (e : ℕ) × (x : Stripe) × Fits v.plan s (e / 2) x × (m ≡ (after_take s e x v, (s, x) ∷ []))
TookSlot s v m (Busy l f) = m ≡ (after_busy s l f v, [])

-- a piece was laid into stripe s, which had k pieces and was in hand
abbrev pub LaidSlot : ℕ → ℕ → ℕ → PassView → Me Stripe PassView → Laid → Type 0
LaidSlot s k c v m Merged = m ≡ (after_put s k c v, [])
LaidSlot s k c v m (Present p) = m ≡ (after_present s p c v, [])
LaidSlot s k c v m (Memory failed) = m ≡ (after_put_back v, [])
