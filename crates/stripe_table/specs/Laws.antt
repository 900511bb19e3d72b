-- What holds of every table that the steps reach.
use Rattle.std.specs.Prelude.{◌≡◌, ◌≢◌, ℕ, ◌+◌, ◌*◌, ◌/◌, ◌%◌, ◌^◌, ◌<◌, ◌≤◌, min, true, false, length, slice_index}
use Rattle.scope_types.specs.Limits.{stripe_count}
use mathlib.Core.Option.{some}
use lib.ListN.{get_elem?}
use Rattle.stripe_table.specs.Limits.{Chunks}
use Rattle.stripe_table.specs.declared.view.PassView.{PassView}
use Rattle.stripe_table.specs.declared.view.Hold.TheVariants.{Holds}
use Rattle.stripe_table.specs.declared.view.Last.TheVariants.{Saw}
use Rattle.stripe_table.specs.declared.stripe.Stripe.{Stripe}
use Rattle.stripe_table.specs.Views.{total, got, over, live, draws, done, owes, spent_view}
use Rattle.stripe_table.specs.Fits.{Fits}
use Rattle.stripe_table.specs.Machine.{MergeState, Reached, stripe_word}

-- of every plan, and every table that the steps reach from the opening
abbrev pub Always : (Chunks → MergeState → Type 0) → Type 0
Always P = (plan : Chunks) (s : MergeState) → Reached plan s → P plan s

-- the pass with this number shows v
abbrev pub Shows : MergeState → ℕ → PassView → Type 0
Shows s j v = get_elem? s.views j ≡ some v

-- the pass with this number holds stripe t, with k pieces
abbrev pub HoldsAt : MergeState → ℕ → ℕ → ℕ → Type 0
HoldsAt s t k j = (v : PassView) × Shows s j v × (v.hold ≡ Holds t k)

-- the first word, or the number of chunks if that is less, is at most the numbers of chunks that the passes drew
abbrev pub DrawsCounted : Chunks → MergeState → Type 0
DrawsCounted plan s = min (slice_index s.words 0) (length plan) ≤ total got s.views

-- where a pass drew a number past the last chunk, the passes drew all numbers of chunks
abbrev pub AllDrawn : Chunks → MergeState → Type 0
AllDrawn plan s = (j : ℕ) (v : PassView) → Shows s j v → 0 < v.over → length plan ≤ total got s.views

-- as long as the passes drew fewer than 2^64 numbers, the first word is how many they drew. So each claim, which draws
-- that word, draws another number than all claims before it; and no more numbers of chunks are drawn than there are
abbrev pub DrawsInOrder : Chunks → MergeState → Type 0
DrawsInOrder plan s = total got s.views + total over s.views < 2 ^ 64
    → (slice_index s.words 0 ≡ total got s.views + total over s.views) × (total got s.views ≤ length plan)

-- nor is a chunk drawn twice
abbrev pub EachDrawnOnce : Chunks → MergeState → Type 0
EachDrawnOnce plan s = total got s.views + total over s.views < 2 ^ 64 → (c : ℕ) → total (draws c) s.views ≤ 1

-- the word of a stripe is 2 k + 1 exactly where a pass holds the stripe with k pieces, and then no other holds it
abbrev pub OddIsHeld : Chunks → MergeState → Type 0
OddIsHeld plan s = (t k : ℕ) → t < stripe_count
    → (stripe_word s t ≡ 2 * k + 1 → (j : ℕ) × HoldsAt s t k j × ((i r : ℕ) → i ≢ j → HoldsAt s t r i → ⊥))
    × ((j : ℕ) → HoldsAt s t k j → stripe_word s t ≡ 2 * k + 1)

-- it is even exactly where no pass holds the stripe
abbrev pub EvenIsFree : Chunks → MergeState → Type 0
EvenIsFree plan s = (t : ℕ) → t < stripe_count
    → (stripe_word s t % 2 ≡ 0 → (j k : ℕ) → HoldsAt s t k j → ⊥)
    × (((j k : ℕ) → HoldsAt s t k j → ⊥) → stripe_word s t % 2 ≡ 0)

-- half of it is at most the number of chunks
abbrev pub FewPieces : Chunks → MergeState → Type 0
FewPieces plan s = (t : ℕ) → t < stripe_count → stripe_word s t / 2 ≤ length plan

-- and is the number of pieces that the passes merged into the stripe
abbrev pub PutsCounted : Chunks → MergeState → Type 0
PutsCounted plan s = (t : ℕ) → t < stripe_count → stripe_word s t / 2 ≡ total (done t) s.views

-- where it is even the stripe is at home, and fits the plan with half as many names
abbrev pub HomeFits : Chunks → MergeState → Type 0
HomeFits plan s = (t : ℕ) → t < stripe_count → stripe_word s t % 2 ≡ 0
    → (x : Stripe) × (get_elem? s.homes t ≡ some (some x)) × Fits plan t (stripe_word s t / 2) x

-- what a pass took fits the plan as long as the pass holds it, with as many names as it shows
abbrev pub TakenFits : Chunks → MergeState → Type 0
TakenFits plan s = (j t k : ℕ) (v : PassView) → Shows s j v → v.hold ≡ Holds t k → Fits plan t k v.taken

-- one pass is first and unspent, and its splits less its joins are the other unspent passes; all others have none
abbrev pub OneFirst : Chunks → MergeState → Type 0
OneFirst plan s = (j : ℕ) × (v : PassView) × Shows s j v × (v.first ≡ true) × (v.live ≡ true)
    × (total live s.views + v.joins ≡ 1 + v.splits)
    × ((i : ℕ) (u : PassView) → i ≢ j → Shows s i u → (u.first ≡ false) × (u.splits ≡ 0) × (u.joins ≡ 0))

-- a spent pass shows nothing
abbrev pub SpentIsBlank : Chunks → MergeState → Type 0
SpentIsBlank plan s = (j : ℕ) (v : PassView) → Shows s j v → v.live ≡ false → v ≡ spent_view

-- unspent passes have the same plan
abbrev pub SamePlan : Chunks → MergeState → Type 0
SamePlan plan s = (j : ℕ) (v : PassView) → Shows s j v → v.live ≡ true → v.plan ≡ plan

-- and passes owe pieces of it alone
abbrev pub OwePieces : Chunks → MergeState → Type 0
OwePieces plan s = (j : ℕ) (v : PassView) → Shows s j v → (c t : ℕ) → 0 < owes c t v
    → (c < length plan) × (t < stripe_count)

-- a first pass that made no other never finds a stripe busy, and a word that it saw has not changed
abbrev pub AloneIsNeverBusy : Chunks → MergeState → Type 0
AloneIsNeverBusy plan s = (j : ℕ) (v : PassView) → Shows s j v → v.first ≡ true → v.splits ≡ 0
    → (v.busy ≡ 0) × ((t e : ℕ) → v.last ≡ Saw t e → stripe_word s t ≡ e)
