-- A pass's seat at the table, and what it has in hand.
use Rattle.std.specs.Prelude.{◌≡◌, ℕ, ◌+◌, true, List, [], ◌∷◌}
use Rattle.scope_types.specs.Limits.{stripe_count}
use Rattle.atomic_table.specs.Seated.{TableId}
use Rattle.atomic_table.specs.declared.shared.Seat.{Seat}
use Rattle.stripe_table.specs.Limits.{Chunks}
use Rattle.stripe_table.specs.declared.view.PassView.{PassView}
use Rattle.stripe_table.specs.declared.view.Hold.{Hold}
use Rattle.stripe_table.specs.declared.view.Hold.TheVariants.{Free, Holds}
use Rattle.stripe_table.specs.declared.stripe.Stripe.{Stripe}
use Rattle.stripe_table.specs.Fits.{Fits}
use Rattle.stripe_table.specs.private.Plays.{Sat}

-- what a pass carries: nothing while it holds nothing, and else the stripe that it took, which fits the plan
abbrev pub CarriesAt : Chunks → Hold → Stripe → List (ℕ × Stripe) → Type 0
CarriesAt p Free x c = c ≡ []
CarriesAt p (Holds s k) x c = (c ≡ (s, x) ∷ []) × Fits p s k x

-- what is true of each pass that a thread has
abbrev pub Carries : Sat → Type 0
Carries m = (m.0.live ≡ true) × CarriesAt m.0.plan m.0.hold m.0.taken m.1

-- the stripe that is held is this one
abbrev pub HeldAt : ℕ → Hold → Type 0
HeldAt a Free = Unit {0}
HeldAt a (Holds s k) = s ≡ a

-- the seat is of this table, which has the right size, and isn't spent
abbrev pub Sits : TableId → Seat Stripe PassView → Type 0
Sits z s = (s.table_id ≡ z) × (z.words ≡ stripe_count + 1) × (z.slots ≡ stripe_count) × (s.me.0.live ≡ true)

-- and holds nothing
abbrev pub SitsFree : TableId → Seat Stripe PassView → Type 0
SitsFree z s = Sits z s × (s.me.0.hold ≡ Free) × (s.me.1 ≡ [])

-- and holds stripe t, which has k names by the view, and is x
abbrev pub SitsOn : TableId → ℕ → ℕ → Stripe → Seat Stripe PassView → Type 0
SitsOn z t k x s = Sits z s × (s.me.0.hold ≡ Holds t k) × (s.me.1 ≡ (t, x) ∷ [])

-- the seat is of the same table, and of the same pass
abbrev pub IsSame : Seat Stripe PassView → Seat Stripe PassView → Type 0
IsSame s t = (t.table_id ≡ s.table_id) × (t.id ≡ s.id)
