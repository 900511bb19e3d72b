-- What each atomic operation does to a pass and to what it has in hand.
use Rattle.std.specs.Prelude.{◌≡◌, ◌≢◌, ℕ, ◌+◌, ◌/◌, List, [], ◌∷◌, slice_index}
use Rattle.atomic_table.specs.Table.{Me, Step}
use Rattle.stripe_table.specs.declared.view.PassView.{PassView}
use Rattle.stripe_table.specs.declared.view.Hold.TheVariants.{Holds}
use Rattle.stripe_table.specs.declared.stripe.Stripe.{Stripe}
use Rattle.stripe_table.specs.Stripe.{empty_stripe}
use Rattle.stripe_table.specs.Fits.{Fits}
use Rattle.stripe_table.specs.Views.{after_draw, after_look, after_busy, after_take, after_put}
use Rattle.stripe_table.specs.Views.{after_put_back, after_present}

-- what a seat shows, and what it has in hand
abbrev pub Sat : Type 0
Sat = Me Stripe PassView

-- a draw
abbrev pub claims : Step Stripe → Sat → ℕ → Sat → Type 0
claims st m w m' = m' ≡ (after_draw w m.0, m.1)

-- a read of a stripe's word
abbrev pub looks : Step Stripe → Sat → ℕ → Sat → Type 0
looks st m w m' = (s : ℕ) → st.word ≡ s + 1 → m' ≡ (after_look s w m.0, m.1)

-- what the seat holds
abbrev pub carried : List (ℕ × Stripe) → Stripe
carried [] = empty_stripe
carried (x ∷ xs) = x.1

-- an exchange, done or not
abbrev pub takes : Step Stripe → Sat → ℕ → Sat → Type 0
takes st m w m' = (s : ℕ) → st.word ≡ s + 1
    → (w ≡ st.first → (x : Stripe) × Fits m.0.plan s (st.first / 2) x
    × (m' ≡ (after_take s st.first x m.0, (s, x) ∷ m.1)))
    × (w ≢ st.first → m' ≡ (after_busy s st.first w m.0, m.1))

-- put back with one name more
abbrev pub puts : Step Stripe → Sat → ℕ → Sat → Type 0
puts st m w m' = (s k : ℕ) → m.0.hold ≡ Holds s k
    → m' ≡ (after_put s k (slice_index (carried m.1).names k) m.0, [])

-- put back as it was
abbrev pub puts_back : Step Stripe → Sat → ℕ → Sat → Type 0
puts_back st m w m' = m' ≡ (after_put_back m.0, [])

-- put back, since the stripe has the piece's name at its index
abbrev pub meets : Step Stripe → Sat → ℕ → Sat → Type 0
meets st m w m' = (s k : ℕ) → m.0.hold ≡ Holds s k
    → m' ≡ (after_present s (carried m.1).index (slice_index (carried m.1).names (carried m.1).index) m.0, [])
