-- What the steps keep, in sums over the passes.
use Rattle.std.specs.Prelude.{◌≡◌, ℕ, ◌+◌, ◌*◌, ◌^◌, ◌<◌, ◌≤◌, ◌⊎◌, true, false, List, length, slice_index}
use Rattle.scope_types.specs.Limits.{stripe_count}
use mathlib.Core.Option.{Option, some}
use lib.ListN.{get_elem?}
use Rattle.atomic_table.specs.Table.{State}
use Rattle.stripe_table.specs.Limits.{Chunks}
use Rattle.stripe_table.specs.declared.view.PassView.{PassView}
use Rattle.stripe_table.specs.declared.view.Hold.TheVariants.{Holds}
use Rattle.stripe_table.specs.declared.view.Last.TheVariants.{Saw}
use Rattle.stripe_table.specs.declared.stripe.Stripe.{Stripe}
use Rattle.stripe_table.specs.Fits.{Fits}
use Rattle.stripe_table.specs.Views.{total, got, over, splits, joins, first, live, draws, done, holds_stripe, owes}
use Rattle.stripe_table.specs.Views.{spent_view}

-- of the word and the home of the stripe t, with d puts and h holders
pub record StripeOk (p : Chunks) (t word : ℕ) (home : Option (Option Stripe)) (d h : ℕ) : Type 0 where
  pub word_is : word ≡ 2 * d + h
  pub one : h ≤ 1
  pub few : d ≤ length p
  pub at_home : h ≡ 0 → (x : Stripe) × (home ≡ some (some x)) × Fits p t d x

-- what holds of each pass, where d gives how many pieces all passes merged into each stripe
pub record SeatOk (p : Chunks) (d : ℕ → ℕ) (v : PassView) : Type 0 where
  pub knows : v.live ≡ true → v.plan ≡ p
  pub quiet : v.first ≡ false → (v.splits ≡ 0) × (v.joins ≡ 0)
  pub held : (t k : ℕ) → v.hold ≡ Holds t k → (t < stripe_count) × (k ≡ d t)
  pub had : (t k : ℕ) → v.hold ≡ Holds t k → Fits p t k v.taken
  pub gone : v.live ≡ false → v ≡ spent_view
  pub placed : (s : ℕ) → 0 < done s v → s < stripe_count
  pub owing : (c s : ℕ) → 0 < owes c s v → (c < length p) × (s < stripe_count)

-- the first pass, where it has made no other
abbrev pub Alone : List ℕ → PassView → Type 0
Alone ws v = v.first ≡ true → v.splits ≡ 0 → (v.busy ≡ 0) × ((s e : ℕ) → v.last ≡ Saw s e → slice_index ws (s + 1) ≡ e)

-- what each step keeps of the words, of the slots and of what the passes show
pub record Kept (p : Chunks) (ws : List ℕ) (hs : List (Option Stripe)) (vs : List PassView) : Type 0 where
  pub wide : length ws ≡ stripe_count + 1
  pub deep : length hs ≡ stripe_count
  pub drawn : (slice_index ws 0 ≤ total got vs) ⊎ (length p ≤ total got vs)
  pub past : 0 < total over vs → length p ≤ total got vs
  pub exact : total got vs + total over vs < 2 ^ 64
      → (slice_index ws 0 ≡ total got vs + total over vs) × (total got vs ≤ length p)
  pub each : total got vs + total over vs < 2 ^ 64
      → (c : ℕ) → (total (draws c) vs ≤ 1) × (slice_index ws 0 ≤ c → total (draws c) vs ≡ 0)
  pub ones : total first vs ≡ 1
  pub lives : total live vs + total joins vs ≡ 1 + total splits vs
  pub stripes : (t : ℕ) → t < stripe_count
      → StripeOk p t (slice_index ws (t + 1)) (get_elem? hs t) (total (done t) vs) (total (holds_stripe t) vs)
  pub seats : (j : ℕ) (v : PassView) → get_elem? vs j ≡ some v → SeatOk p (λ t. total (done t) vs) v
  pub alone : (j : ℕ) (v : PassView) → get_elem? vs j ≡ some v → Alone ws v

-- the same of a whole state of the table
abbrev pub Ruled : Chunks → State Stripe PassView → Type 0
Ruled p s = Kept p s.words s.homes s.views
