-- The merge as a machine: its eight kinds of step (put back has two constructors) on words, stripes and passes, and
-- the tables that they reach.
use Rattle.std.specs.Prelude.{◌≡◌, ◌≢◌, ℕ, ◌+◌, ◌*◌, ◌%◌, ◌^◌, ◌<◌, true, false, [], ◌∷◌, ◌++◌, replicate}
use Rattle.std.specs.Prelude.{slice_index, slice_set}
use Rattle.scope_types.specs.Limits.{stripe_count}
use mathlib.Core.Option.{Option, none, some}
use lib.ListN.{get_elem?}
use Rattle.atomic_table.specs.Table.{State}
use Rattle.stripe_table.specs.Limits.{Chunks}
use Rattle.stripe_table.specs.declared.view.PassView.{PassView}
use Rattle.stripe_table.specs.declared.view.Hold.TheVariants.{Free, Holds}
use Rattle.stripe_table.specs.declared.view.Last.TheVariants.{Saw}
use Rattle.stripe_table.specs.declared.stripe.Stripe.{Stripe}
use Rattle.stripe_table.specs.Stripe.{empty_stripe}
use Rattle.stripe_table.specs.Views.{first_view, fresh_view, spent_view, after_draw, after_look, after_busy, after_take}
use Rattle.stripe_table.specs.Views.{after_put, after_put_back, after_present, after_split, after_join}
use Rattle.stripe_table.specs.Fits.{Fits, IsUnchanged, IsLonger}

-- the words, the stripes that are at home in their slots, and what each pass shows
abbrev pub MergeState : Type 0
MergeState = State Stripe PassView

-- all words 0, all stripes at home and empty, and the first pass
abbrev pub at_start : Chunks → MergeState
at_start plan = record {
  words = replicate (stripe_count + 1) 0;
  homes = replicate stripe_count (some empty_stripe);
  views = first_view plan ∷ [];
}

-- the word of stripe t
abbrev pub stripe_word : MergeState → ℕ → ℕ
stripe_word s t = slice_index s.words (t + 1)

-- an unspent pass, by its number, shows v
abbrev pub IsPass : MergeState → ℕ → PassView → Type 0
IsPass s id v = (get_elem? s.views id ≡ some v) × (v.live ≡ true)

-- the pass shows w now
abbrev pub with_view : MergeState → ℕ → PassView → MergeState
with_view s id w = record { words = s.words; homes = s.homes; views = slice_set s.views id w }

-- the pass shows w now, the word of stripe t is n, and its slot has that stripe, or none
abbrev pub with_stripe : MergeState → ℕ → PassView → ℕ → ℕ → Option Stripe → MergeState
with_stripe s id w t n home = record {
  words = slice_set s.words (t + 1) n;
  homes = slice_set s.homes t home;
  views = slice_set s.views id w;
}

-- the first word has grown by 1, modulo 2^64, and the pass that did it shows w
abbrev pub with_draw : MergeState → ℕ → PassView → MergeState
with_draw s id w = record {
  words = slice_set s.words 0 ((slice_index s.words 0 + 1) % 2 ^ 64);
  homes = s.homes;
  views = slice_set s.views id w;
}

-- a pass has made another
abbrev pub with_pass : MergeState → ℕ → PassView → PassView → MergeState
with_pass s id w new = record { words = s.words; homes = s.homes; views = slice_set s.views id w ++ new ∷ [] }

-- a pass has taken in another, which is spent
abbrev pub with_spent : MergeState → ℕ → PassView → ℕ → MergeState
with_spent s id w other = record {
  words = s.words;
  homes = s.homes;
  views = slice_set (slice_set s.views id w) other spent_view;
}

-- one atomic step of one pass, from one table to the next
pub data Step (s s' : MergeState) : Type 0 where
  -- a pass draws a number, by adding 1 to the first word
  claim : (id : ℕ) (v : PassView) → IsPass s id v
      → s' ≡ with_draw s id (after_draw (slice_index s.words 0) v) → Step s s'
  -- a pass that holds nothing reads a stripe's word
  look : (id : ℕ) (v : PassView) (t : ℕ) → IsPass s id v → v.hold ≡ Free → t < stripe_count
      → s' ≡ with_view s id (after_look t (stripe_word s t) v) → Step s s'
  -- a pass takes a stripe whose word is still the even number that it saw
  take : (id : ℕ) (v : PassView) (t e : ℕ) (x : Stripe) → IsPass s id v → v.hold ≡ Free → v.last ≡ Saw t e
      → e % 2 ≡ 0 → t < stripe_count → stripe_word s t ≡ e → get_elem? s.homes t ≡ some (some x)
      → s' ≡ with_stripe s id (after_take t e x v) t (e + 1) none → Step s s'
  -- a pass finds another number than it saw
  miss : (id : ℕ) (v : PassView) (t e : ℕ) → IsPass s id v → v.last ≡ Saw t e → stripe_word s t ≢ e
      → s' ≡ with_view s id (after_busy t e (stripe_word s t) v) → Step s s'
  -- a pass puts back a stripe that fits the plan with one name more: the one that it took, with one piece more
  puts : (id : ℕ) (v : PassView) (t k : ℕ) (x : Stripe) → IsPass s id v → v.hold ≡ Holds t k
      → Fits v.plan t (k + 1) x → IsLonger v.plan t (slice_index x.names k) v.taken x
      → s' ≡ with_stripe s id (after_put t k (slice_index x.names k) v) t (2 * k + 2) (some x) → Step s s'
  -- a pass puts back a stripe that fits the plan with as many names: the one that it took, unchanged
  puts_back : (id : ℕ) (v : PassView) (t k : ℕ) (x : Stripe) → IsPass s id v → v.hold ≡ Holds t k
      → Fits v.plan t k x → IsUnchanged v.taken x
      → s' ≡ with_stripe s id (after_put_back v) t (2 * k) (some x) → Step s s'
  -- the same, where it found the name of a piece at index p
  meets : (id : ℕ) (v : PassView) (t k p : ℕ) (x : Stripe) → IsPass s id v → v.hold ≡ Holds t k
      → Fits v.plan t k x → IsUnchanged v.taken x → p < k
      → s' ≡ with_stripe s id (after_present t p (slice_index x.names p) v) t (2 * k) (some x) → Step s s'
  -- the first pass makes another
  split : (id : ℕ) (v : PassView) → IsPass s id v → v.first ≡ true
      → s' ≡ with_pass s id (after_split v) (fresh_view false v.plan) → Step s s'
  -- the first pass takes in another that holds nothing
  join : (id other : ℕ) (v w : PassView) → IsPass s id v → v.first ≡ true → IsPass s other w → other ≢ id
      → w.hold ≡ Free → s' ≡ with_spent s id (after_join v w) other → Step s s'

-- the tables that steps reach from the opening
pub data Reached (plan : Chunks) : MergeState → Type 0 where
  begins : Reached plan (at_start plan)
  goes : (r s : MergeState) → Reached plan r → Step r s → Reached plan s
