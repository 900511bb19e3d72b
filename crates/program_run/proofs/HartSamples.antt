-- How many samples each hart of a run has, where retired is the only event.
use Rattle.std.proofs.Common.{◌≡◌, ℕ, zero, suc, ◌+◌, ◌<◌, ◌≤◌, ◌==◌, Bool, cond, inl, inr, List, [], ◌∷◌, length, map, filter, sum, sum_by, count_by, All, refl, sym, ap, ◌∙◌, arith}
use Rattle.std.specs.List.{range_with_len}
use Rattle.std.proofs.lemmas.Bool.{eq-eqb, ne_eqb}
use Rattle.std.proofs.lemmas.Bool.Decides.{eqb_tells}
use Rattle.std.proofs.lemmas.List.{length-map}
use Rattle.std.proofs.lemmas.Simd.{map-map}
use Rattle.std.proofs.lemmas.List.Elements.{All-head, All-tail}
use Rattle.std.proofs.lemmas.List.Sums.{length-filter, sum-map, sum_by-cons}
use Rattle.sample_clock.specs.declared.clock.Sample.{Sample}
use Rattle.scope_types.specs.Distinct.{ColumnRaw, raws_of}
use Rattle.trace_lines.specs.Traces.{HartTrace, samples_traced}
use Rattle.program_run.specs.Measured.{Measured}
use Rattle.program_run.specs.Samples.{column_raw}
use Rattle.program_run.specs.commands.Trace.{hart_traced}

-- the raw paths of a column are as many as its samples
pub raws_counted : (samples : List ColumnRaw) (column : ℕ) → length (raws_of samples column) ≡ count_by (λ s. s.column == column) samples
raws_counted samples column = length-map (filter (λ (s : ColumnRaw). s.column == column) samples) (λ (s : ColumnRaw). s.raw) ∙ length-filter (λ (s : ColumnRaw). s.column == column) samples

-- where retired is the only event, the samples of a column are those of a hart
pub column_counted : (hart : ℕ) (samples : List Sample) → All (λ x. x.event ≡ 0) samples → count_by (λ s. s.column == hart) (map (column_raw 1) samples) ≡ count_by (λ x. x.hart == hart) samples
column_counted hart [] none = refl
column_counted hart (x ∷ samples) none =
    let event : x.event ≡ 0 = All-head (λ (y : Sample). y.event ≡ 0) x samples none in
    let own : (column_raw 1 x).column ≡ x.hart = omega (arith, event) in
    let same : cond ((column_raw 1 x).column == hart) 1 0 ≡ cond (x.hart == hart) 1 0 = ap (λ (n : ℕ). (let k : ℕ = cond (n == hart) 1 0 in k)) own in
    let left = sum_by-cons (λ (s : ColumnRaw). cond (s.column == hart) 1 0) (column_raw 1 x) (map (column_raw 1) samples) in
    let right = sum_by-cons (λ (y : Sample). cond (y.hart == hart) 1 0) x samples in
    let rest = column_counted hart samples (All-tail (λ (y : Sample). y.event ≡ 0) x samples none) in
    omega (arith, same, left, right, rest)

-- ---- all harts

-- 1 for the column of a sample
abbrev one_for : ℕ → ℕ → ℕ
one_for own column = cond (own == column) 1 0

none_before : (own first columns : ℕ) → own < first → sum_by (one_for own) (range_with_len first columns) ≡ 0
none_before own first zero less = refl
none_before own first (suc columns) less =
    let here : one_for own first ≡ 0 = ap (λ (b : Bool). (let k : ℕ = cond b 1 0 in k)) (ne_eqb own first (λ e. absurd (omega (arith, less, e)))) in
    let whole = sum_by-cons (one_for own) first (range_with_len (first + 1) columns) in
    let rest = none_before own (first + 1) columns (omega (arith, less)) in
    omega (arith, here, whole, rest)

one_among : (own first columns : ℕ) → first ≤ own → own < first + columns → sum_by (one_for own) (range_with_len first columns) ≡ 1
one_among own first zero low high = absurd (omega (arith, low, high))
one_among own first (suc columns) low high =
    let whole = sum_by-cons (one_for own) first (range_with_len (first + 1) columns) in
    elim (eqb_tells own first) [
      | inl same ↦ (
          let e : own ≡ first = same.1 in
          let here : one_for own first ≡ 1 = ap (λ (b : Bool). (let k : ℕ = cond b 1 0 in k)) (eq-eqb own first e) in
          let rest = none_before own (first + 1) columns (omega (arith, e)) in
          omega (arith, here, whole, rest)
          )
      | inr other ↦ (
          let apart : ¬ (own ≡ first) = other.1 in
          let here : one_for own first ≡ 0 = ap (λ (b : Bool). (let k : ℕ = cond b 1 0 in k)) (ne_eqb own first apart) in
          let above : first + 1 ≤ own = above_first own first low apart in
          let rest = one_among own (first + 1) columns above (omega (arith, high)) in
          omega (arith, here, whole, rest)
          )
    ]
  where
    above_first : (own first : ℕ) → first ≤ own → ¬ (own ≡ first) → first + 1 ≤ own
    above_first own first low apart = omega (arith, low, apart)

sums_added : (f g h : ℕ → ℕ) → ((n : ℕ) → f n ≡ g n + h n) → (xs : List ℕ) → sum_by f xs ≡ sum_by g xs + sum_by h xs
sums_added f g h each [] = refl
sums_added f g h each (x ∷ xs) =
    let here = each x in
    let whole = sum_by-cons f x xs in
    let left = sum_by-cons g x xs in
    let right = sum_by-cons h x xs in
    let rest = sums_added f g h each xs in
    omega (arith, here, whole, left, right, rest)

no_sum : (xs : List ℕ) → sum_by (λ (n : ℕ). 0) xs ≡ 0
no_sum [] = refl
no_sum (x ∷ xs) = (let whole = sum_by-cons (λ (n : ℕ). 0) x xs in let rest = no_sum xs in omega (arith, whole, rest))

-- the samples of all columns are all samples
columns_counted : (columns : ℕ) (samples : List ColumnRaw) → All (λ s. s.column < columns) samples → sum_by (λ column. count_by (λ s. s.column == column) samples) (range_with_len 0 columns) ≡ length samples
columns_counted columns [] own = no_sum (range_with_len 0 columns)
columns_counted columns (s ∷ samples) own =
    let below : s.column < columns = All-head (λ (t : ColumnRaw). t.column < columns) s samples own in
    let parts = sums_added (λ column. count_by (λ s. s.column == column) (s ∷ samples)) (one_for s.column) (λ column. count_by (λ s. s.column == column) samples)
    (λ column. sum_by-cons (λ (t : ColumnRaw). cond (t.column == column) 1 0) s samples) (range_with_len 0 columns) in
    let one = one_among s.column 0 columns (omega arith) (omega (arith, below)) in
    let rest = columns_counted columns samples (All-tail (λ (t : ColumnRaw). t.column < columns) s samples own) in
    omega (arith, parts, one, rest)

-- the samples of all harts of a run are all its samples
pub harts_counted : (m : Measured) → All (λ s. s.column < m.harts) m.samples → samples_traced (map (hart_traced m) (range_with_len 0 m.harts)) ≡ length m.samples
harts_counted m own =
    let long : HartTrace → ℕ = λ h. length h.samples in
    sym (sum-map long (map (hart_traced m) (range_with_len 0 m.harts)))
    ∙ ap (λ (l : List ℕ). sum l) (map-map long (hart_traced m) (range_with_len 0 m.harts))
    ∙ sum-map (λ (hart : ℕ). length (raws_of m.samples hart)) (range_with_len 0 m.harts)
    ∙ (λ i. sum_by (λ hart. raws_counted m.samples hart i) (range_with_len 0 m.harts))
    ∙ columns_counted m.harts m.samples own
