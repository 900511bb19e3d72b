-- A stable sort of rows by address keeps the row in force at each address.
use Rattle.std.proofs.Common.{◌≡◌, ◌==◌, ◌&&◌, ◌∙◌, ℕ, ◌≤◌, max, Bool, true, false, cond, List, [], ◌∷◌, map, reverse, not, Option, Some, None, refl, sym, ap, subst, inl, inr, arith}
use Rattle.std.specs.Prelude.{fold, filter, find, nat_le}
use Rattle.std.specs.Option.{option_or}
use Rattle.std.specs.List.{AllByRecursion}
use Rattle.std.specs.Ordering.{nat_cmp, is_lt}
use Rattle.std.specs.List.Sorted.{IsSortedByKey, IsStableByKey, ties}
use Rattle.std.specs.Fn.{Called, ComputesKey}
use Rattle.std.proofs.Math.Nat.{le-max_left, le-max_right, max-le}
use Rattle.std.proofs.lemmas.Bool.{le-ltb}
use Rattle.std.proofs.lemmas.Bool.Decides.{leb_tells, eqb_tells}
use Rattle.std.proofs.lemmas.List.{reverse-append}
use Rattle.std.proofs.lemmas.List.Folds.{find-append}
use Rattle.std.proofs.lemmas.List.Sorted.{IsNonDecreasingBy-from_sort_by_key}
use Rattle.std.proofs.lemmas.Fn.{always_returns_same}
use denote.Ref.{Bor}
use denote.Param.Members.{Mut}
use Rattle.core.proofs.slice.Orders.{nat_cmp-ltb}
use Rattle.dwarf_line.specs.declared.registers.LineRow.{LineRow}
use Rattle.dwarf_line.specs.Sequences.{greatest, last_row_at}
use Rattle.dwarf_line.specs.private.Rising.{zero_row, Rises, IsByAddress}

-- ---- the greatest address

-- the greatest of a number and the addresses at most `at`
abbrev highest : ℕ → ℕ → List LineRow → ℕ
highest at m rows = fold max m (map (λ r. r.address) (filter (λ r. nat_le r.address at) rows))

abbrev IsBelow : ℕ → ℕ → LineRow → Type 0
IsBelow at b r = r.address ≤ at → r.address ≤ b

starts : (at m : ℕ) (rows : List LineRow) → m ≤ highest at m rows
starts at m [] = omega arith
starts at m (r ∷ rows) = elim (leb_tells r.address at) [
  | inl here ↦ rw here.0 (omega (arith, le-max_left m r.address, starts at (max m r.address) rows))
  | inr past ↦ rw past.0 (starts at m rows)
]

with_row : (at m : ℕ) (r : LineRow) (rows : List LineRow) → nat_le r.address at ≡ true → highest at m (r ∷ rows) ≡ highest at (max m r.address) rows
with_row at m r rows e = rw e refl

without_row : (at m : ℕ) (r : LineRow) (rows : List LineRow) → nat_le r.address at ≡ false → highest at m (r ∷ rows) ≡ highest at m rows
without_row at m r rows e = rw e refl

is_reached : (at m : ℕ) (rows : List LineRow) → AllByRecursion (IsBelow at (highest at m rows)) rows
is_reached at m [] = tt
is_reached at m (r ∷ rows) = elim (leb_tells r.address at) [
  | inl here ↦
      let e = with_row at m r rows here.0 in
      ((λ le. omega (arith, le-max_right m r.address, starts at (max m r.address) rows, e)), subst (λ (b : ℕ). AllByRecursion (IsBelow at b) rows) (sym e) (is_reached at (max m r.address) rows))
  | inr past ↦ ((λ le. absurd (omega (arith, past.1))), subst (λ (b : ℕ). AllByRecursion (IsBelow at b) rows) (sym (without_row at m r rows past.0)) (is_reached at m rows))
]

is_least : (at b m : ℕ) (rows : List LineRow) → m ≤ b → AllByRecursion (IsBelow at b) rows → highest at m rows ≤ b
is_least at b m [] le all = le
is_least at b m (r ∷ rows) le all = elim (leb_tells r.address at) [
  | inl here ↦ rw here.0 (is_least at b (max m r.address) rows (max-le le (all.0 here.1)) all.1)
  | inr past ↦ rw past.0 (is_least at b m rows le all.1)
]

-- ---- rows that a stable sort leaves

abbrev Test : Type 0
Test = LineRow → Bool

abbrev ties_with : LineRow → Test
ties_with x r = ties (λ (a b : LineRow). is_lt (nat_cmp a.address b.address)) x r

ties_at : (g a : ℕ) → a ≡ g → (not (is_lt (nat_cmp g a)) && not (is_lt (nat_cmp a g))) ≡ true
ties_at g a e = rw (nat_cmp-ltb g a ∙ le-ltb g a (omega arith), nat_cmp-ltb a g ∙ le-ltb a g (omega arith)) refl

all_passed : (P : LineRow → Type 0) (q : Test) (rows : List LineRow) → AllByRecursion P rows → AllByRecursion P (filter q rows)
all_passed P q [] all = tt
all_passed P q (r ∷ rows) all = by_test (q r) (all_passed P q rows all.1)
  where
    by_test : (b : Bool) → AllByRecursion P (filter q rows) → AllByRecursion P (cond b (r ∷ filter q rows) (filter q rows))
    by_test true others = (all.0, others)
    by_test false others = others

first_passed : (P : LineRow → Type 0) (b : Bool) (r : LineRow) (rows : List LineRow) → b ≡ true → AllByRecursion P (cond b (r ∷ rows) rows) → P r
first_passed P true r rows e all = all.0
first_passed P false r rows e all = absurd cc

others_passed : (P : LineRow → Type 0) (b : Bool) (r : LineRow) (rows : List LineRow) → AllByRecursion P (cond b (r ∷ rows) rows) → AllByRecursion P rows
others_passed P true r rows all = all.1
others_passed P false r rows all = all

all_by_ties : (P : LineRow → Type 0) (rows : List LineRow) → ((x : LineRow) → AllByRecursion P (filter (ties_with x) rows)) → AllByRecursion P rows
all_by_ties P [] each = tt
all_by_ties P (r ∷ rows) each = (
  first_passed P (ties_with r r) r (filter (ties_with r) rows) (ties_at r.address r.address refl) (each r),
  all_by_ties P rows (λ x. others_passed P (ties_with x r) r (filter (ties_with x) rows) (each x)),
)

all_stay : (P : LineRow → Type 0) (xs ys : List LineRow) → ((x : LineRow) → filter (ties_with x) ys ≡ filter (ties_with x) xs) → AllByRecursion P xs → AllByRecursion P ys
all_stay P xs ys same all = all_by_ties P ys (λ x. subst (AllByRecursion P) (sym (same x)) (all_passed P (ties_with x) xs all))

no_higher : (at : ℕ) (xs ys : List LineRow) → ((x : LineRow) → filter (ties_with x) ys ≡ filter (ties_with x) xs) → greatest at ys ≤ greatest at xs
no_higher at xs ys same =
    is_least at (greatest at xs) 0 ys (omega arith) (all_stay (IsBelow at (greatest at xs)) xs ys same (is_reached at 0 xs))

same_greatest : (at : ℕ) (xs ys : List LineRow) → ((x : LineRow) → filter (ties_with x) ys ≡ filter (ties_with x) xs) → greatest at ys ≡ greatest at xs
same_greatest at xs ys same = omega (arith, no_higher at xs ys same, no_higher at ys xs (λ x. sym (same x)))

-- ---- the last row at an address

or_none : (a : Option LineRow) → a ≡ option_or a None
or_none (Some x) = refl
or_none None = refl

last_of : (p : Test) (r : LineRow) (rows : List LineRow) → find p (reverse (r ∷ rows)) ≡ option_or (find p (reverse rows)) (find p (r ∷ []))
last_of p r rows =
    ap (find p) (reverse-append (r ∷ []) rows) ∙ find-append p (reverse rows) (r ∷ [])

none_of : (p : Test) (r : LineRow) → p r ≡ false → find p (r ∷ []) ≡ None
none_of p r e = rw e refl

kept_step : (p q : Test) (r : LineRow) (rows : List LineRow) (b : Bool) → (b ≡ false → p r ≡ false) → find p (reverse rows) ≡ find p (reverse (filter q rows))
    → find p (reverse (r ∷ rows)) ≡ find p (reverse (cond b (r ∷ filter q rows) (filter q rows)))
kept_step p q r rows true wider so_far =
    last_of p r rows ∙ ap (λ (o : Option LineRow). option_or o (find p (r ∷ []))) so_far ∙ sym (last_of p r (filter q rows))
kept_step p q r rows false wider so_far =
    last_of p r rows ∙ ap (λ (o : Option LineRow). option_or (find p (reverse rows)) o) (none_of p r (wider refl)) ∙ sym (or_none (find p (reverse rows))) ∙ so_far

-- rows that a wider test drops are not found
last_kept : (p q : Test) → ((r : LineRow) → q r ≡ false → p r ≡ false) → (rows : List LineRow) → find p (reverse rows) ≡ find p (reverse (filter q rows))
last_kept p q wider [] = refl
last_kept p q wider (r ∷ rows) = kept_step p q r rows (q r) (λ e. wider r e) (last_kept p q wider rows)

abbrev row_at_address : ℕ → LineRow
row_at_address g = record { address = g; file = 0; line = 0; end_sequence = false }

is_wider : (at g : ℕ) (r : LineRow) → ties_with (row_at_address g) r ≡ false → ((r.address == g) && nat_le r.address at) ≡ false
is_wider at g r e = elim (eqb_tells r.address g) [
  | inl same ↦ absurd (let both : true ≡ false = sym (ties_at g r.address same.1) ∙ e in cc)
  | inr other ↦ rw other.0 refl
]

same_last : (at g : ℕ) (xs ys : List LineRow) → ((x : LineRow) → filter (ties_with x) ys ≡ filter (ties_with x) xs)
    → find (λ r. (r.address == g) && nat_le r.address at) (reverse ys) ≡ find (λ r. (r.address == g) && nat_le r.address at) (reverse xs)
same_last at g xs ys same =
    let p : Test = λ r. (r.address == g) && nat_le r.address at in
    last_kept p (ties_with (row_at_address g)) (is_wider at g) ys
    ∙ ap (λ (rs : List LineRow). find p (reverse rs)) (same (row_at_address g))
    ∙ sym (last_kept p (ties_with (row_at_address g)) (is_wider at g) xs)

-- ---- both

-- the row in force among sorted rows is that of the rows as they were
pub same_row : (at : ℕ) (rows sorted : List LineRow) → IsByAddress rows sorted → last_row_at at sorted ≡ last_row_at at rows
same_row at rows sorted by =
    ap (λ (g : ℕ). find (λ r. (r.address == g) && nat_le r.address at) (reverse sorted)) (same_greatest at rows sorted by.stable)
    ∙ same_last at (greatest at rows) rows sorted by.stable

-- from the clauses of `sort_by_key`
pub sorted_by_key : {F : Type 0} {g : Mut F (Bor LineRow × Unit {0}) ℕ} {f : F} (xs ys : List LineRow)
    → ((key : LineRow → ℕ) → ComputesKey g key f → IsSortedByKey key nat_cmp ys)
    → ((key : LineRow → ℕ) → ComputesKey g key f → IsStableByKey key nat_cmp xs ys)
    → ((a : Bor LineRow × Unit {0}) (r : ℕ) (f' : F) → Called g f a r f' → (r ≡ a.0.now.address) × (f' ≡ f)) → IsByAddress xs ys
sorted_by_key {g = g} {f = f} xs ys up stable each =
    let rises = IsNonDecreasingBy-from_sort_by_key (λ (r : LineRow). r.address) ys up each in
    record {
      rises = λ i j le lt. rises i j zero_row le lt;
      stable = stable (λ (r : LineRow). r.address) (always_returns_same g (λ a r. r ≡ a.0.now.address) f each);
    }

pub rising_rows : (rows : List LineRow) → Rises rows → IsByAddress rows rows
rising_rows rows rises = record { rises = rises; stable = λ x. refl }

-- ---- the first row
