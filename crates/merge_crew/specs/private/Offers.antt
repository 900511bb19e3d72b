-- What the offers of a piece do to a pass.
use Rattle.std.specs.Prelude.{◌≡◌, ℕ, ◌+◌, ◌≤◌, length}
use Rattle.stripe_table.specs.Views.{is_piece, owes, weight}
use Rattle.stripe_table.specs.declared.view.PassView.{PassView}
use Rattle.stripe_table.specs.declared.view.Hold.TheVariants.{Free}
use Rattle.stripe_table.specs.declared.offer.Offered.{Offered}
use Rattle.stripe_table.specs.declared.offer.Offered.TheVariants.{Merged, Present, Busy, Memory}

-- the pass has drawn nothing since, made and taken in no pass, and holds nothing
pub record OnlyOffers (v w : PassView) : Type 0 where
  pub plan : w.plan ≡ v.plan
  pub first : w.first ≡ v.first
  pub got : w.got ≡ v.got
  pub over : w.over ≡ v.over
  pub drawn : w.drawn ≡ v.drawn
  pub splits : w.splits ≡ v.splits
  pub joins : w.joins ≡ v.joins
  pub free : w.hold ≡ Free

-- a busy piece is owed as before
abbrev pub OwesBusy : PassView → PassView → Offered → Type 0
OwesBusy v w Merged = Unit {0}
OwesBusy v w (Present p) = Unit {0}
OwesBusy v w (Busy l f) = w.owed ≡ v.owed
OwesBusy v w (Memory failed) = Unit {0}

-- what became of a piece that was offered once
abbrev pub OfferedOnce : PassView → PassView → Offered → Type 0
OfferedOnce v w Merged = (length w.puts ≡ length v.puts + 1) × (w.met ≡ v.met) × (v.busy ≤ w.busy)
OfferedOnce v w (Present p) = (length w.puts ≡ length v.puts) × (w.met ≡ v.met + 1) × (v.busy ≤ w.busy)
OfferedOnce v w (Busy l f) = (length w.puts ≡ length v.puts) × (w.met ≡ v.met) × (v.busy + 1 ≤ w.busy)
OfferedOnce v w (Memory failed) = (length w.puts ≡ length v.puts) × (w.met ≡ v.met) × (v.busy ≤ w.busy)

-- and a busy one is owed as before
abbrev pub OffersOnce : PassView → PassView → Offered → Type 0
OffersOnce v w r = OfferedOnce v w r × OwesBusy v w r

-- where a piece of chunk c for stripe s was merged or present, it is owed once less, and all others are owed as before;
-- the pieces that are owed are one less
abbrev pub OwesLess : ℕ → ℕ → PassView → PassView → Offered → Type 0
OwesLess c s v w Merged = ((d t : ℕ) → owes d t w + weight (is_piece d t (c, s)) ≡ owes d t v)
    × (length w.owed + 1 ≡ length v.owed)
OwesLess c s v w (Present p) = ((d t : ℕ) → owes d t w + weight (is_piece d t (c, s)) ≡ owes d t v)
    × (length w.owed + 1 ≡ length v.owed)
OwesLess c s v w (Busy l f) = Unit {0}
OwesLess c s v w (Memory failed) = Unit {0}

-- of all pieces, one of chunk c for stripe s at most is owed less
abbrev pub OwesRest : ℕ → ℕ → PassView → PassView → Type 0
OwesRest c s v w = (d t : ℕ) → owes d t v ≤ owes d t w + weight (is_piece d t (c, s))
