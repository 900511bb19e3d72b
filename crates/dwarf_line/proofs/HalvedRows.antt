-- Of rows that rise, the last one at most at an address is in force.
use Rattle.std.proofs.Common.{◌≡◌, ℕ, zero, suc, ◌+◌, ◌-◌, ◌≤◌, ◌<◌, true, false, leb, List, length, take, get_or, Option, Some, None, refl, sym, ap, ◌∙◌, inl, inr, arith}
use Rattle.std.proofs.Math.Seq.{take-suc, take-length}
use Rattle.std.specs.List.Sorted.{IsNonDecreasingBy, IsPartitionPoint}
use Rattle.std.proofs.lemmas.Bool.{le-leb, leb-true, leb-false}
use Rattle.std.proofs.lemmas.List.{get_or_default}
use Rattle.std.proofs.lemmas.Bool.Decides.{leb_tells}
use Rattle.dwarf_line.specs.declared.registers.LineRow.{LineRow}
use Rattle.dwarf_line.specs.declared.rows.BestRow.{BestRow}
use Rattle.dwarf_line.specs.Sequences.{last_row_at}
use Rattle.dwarf_line.specs.private.BestRow.{better}
use Rattle.dwarf_line.specs.private.Rising.{zero_row, address_at, Rises}
use Rattle.dwarf_line.proofs.BestRows.{best_of, best_push}

pub rises_by : (rows : List LineRow) → Rises rows → IsNonDecreasingBy (λ r. r.address) rows
rises_by rows rises i j d le lt =
    omega (arith, rises i j le lt, ap (λ (r : LineRow). r.address) (get_or_default rows i d zero_row (omega arith)), ap (λ (r : LineRow). r.address) (get_or_default rows j d zero_row lt))

-- the first `count` rows are at most at an address, and the others are above it
abbrev pub IsSplit : ℕ → List LineRow → ℕ → Type 0
IsSplit at rows count = IsPartitionPoint (λ (r : LineRow). leb r.address at ≡ true) (λ r. leb r.address at ≡ false) rows count

abbrev best_up_to : List LineRow → ℕ → BestRow
best_up_to rows zero = record { greatest = 0; found = None }
best_up_to rows (suc j) = record { greatest = address_at rows j; found = Some (get_or rows j zero_row) }

taken : (at : ℕ) (best : BestRow) (y : LineRow) → y.address ≤ at → best.greatest ≤ y.address → better at best y ≡ record { greatest = y.address; found = Some y }
taken at best y here up = rw (le-leb y.address at here, le-leb best.greatest y.address up) refl

left : (at : ℕ) (best : BestRow) (y : LineRow) → at < y.address → better at best y ≡ best
left at best y past = elim (leb_tells y.address at) [ inl here ↦ absurd (omega (arith, here.1)) | inr above ↦ rw above.0 refl ]

starts : (rows : List LineRow) (j : ℕ) → Rises rows → j < length rows → (best_up_to rows j).greatest ≤ address_at rows j
starts rows zero rises lt = omega arith
starts rows (suc j) rises lt = rises j (suc j) (omega arith) lt

best_below : (at : ℕ) (rows : List LineRow) (j : ℕ) → Rises rows → j ≤ length rows → ((i : ℕ) → i < j → address_at rows i ≤ at) → best_of at (take j rows) ≡ best_up_to rows j
best_below at rows zero rises le below = refl
best_below at rows (suc j) rises le below =
    let y : LineRow = get_or rows j zero_row in
    let earlier = best_below at rows j rises (omega arith) (λ i lt. below i (omega arith)) in
    ap (best_of at) (take-suc rows j zero_row (omega arith)) ∙ sym (best_push at (take j rows) y) ∙ ap (λ (b : BestRow). better at b y) earlier
    ∙ taken at (best_up_to rows j) y (below j (omega arith)) (starts rows j rises (omega arith))

best_above : (at : ℕ) (rows : List LineRow) (k m : ℕ) → k + m ≤ length rows → ((i : ℕ) → k ≤ i → i < length rows → at < address_at rows i) → best_of at (take (k + m) rows) ≡ best_of at (take k rows)
best_above at rows k zero le above = ap (λ (n : ℕ). best_of at (take n rows)) (omega arith)
best_above at rows k (suc m) le above =
    let y : LineRow = get_or rows (k + m) zero_row in
    let n : k + suc m ≡ suc (k + m) = omega arith in
    ap (λ (i : ℕ). best_of at (take i rows)) n ∙ ap (best_of at) (take-suc rows (k + m) zero_row (omega arith)) ∙ sym (best_push at (take (k + m) rows) y)
    ∙ left at (best_of at (take (k + m) rows)) y (above (k + m) (omega arith) (omega arith)) ∙ best_above at rows k m (omega arith) above

abbrev pub row_before : List LineRow → ℕ → Option LineRow
row_before rows zero = None
row_before rows (suc j) = Some (get_or rows j zero_row)

found_up_to : (rows : List LineRow) (k : ℕ) → (best_up_to rows k).found ≡ row_before rows k
found_up_to rows zero = refl
found_up_to rows (suc j) = refl

pub in_force : (at : ℕ) (rows : List LineRow) (k : ℕ) → Rises rows → k ≤ length rows → IsSplit at rows k → last_row_at at rows ≡ row_before rows k
in_force at rows k rises within split =
    let m = length rows - k in
    let whole : take (k + m) rows ≡ rows = ap (λ (n : ℕ). take n rows) (let e : k + m ≡ length rows = omega arith in e) ∙ take-length rows in
    ap (λ (rs : List LineRow). last_row_at at rs) (sym whole)
    ∙ ap (λ (b : BestRow). b.found) (best_above at rows k m (omega arith) (λ i from lt. leb-false (address_at rows i) at (split.1 i zero_row from lt))
    ∙ best_below at rows k rises within (λ i lt. leb-true (address_at rows i) at (split.0 i zero_row (omega arith) lt)))
    ∙ found_up_to rows k

row_before_some : (rows : List LineRow) (k : ℕ) → 0 < k → row_before rows k ≡ Some (get_or rows (k - 1) zero_row)
row_before_some rows zero some = absurd (omega arith)
row_before_some rows (suc j) some = ap (λ (n : ℕ). Some (get_or rows n zero_row)) (let e : j ≡ suc j - 1 = omega arith in e)

pub none_in_force : (at : ℕ) (rows : List LineRow) (k : ℕ) → Rises rows → k ≤ length rows → IsSplit at rows k → k ≡ 0 → None ≡ last_row_at at rows
none_in_force at rows k rises within split none = sym (in_force at rows k rises within split ∙ ap (row_before rows) none)

pub last_in_force : (at : ℕ) (rows : List LineRow) (k : ℕ) → Rises rows → k ≤ length rows → IsSplit at rows k → 0 < k → Some (get_or rows (k - 1) zero_row) ≡ last_row_at at rows
last_in_force at rows k rises within split some = sym (in_force at rows k rises within split ∙ row_before_some rows k some)
