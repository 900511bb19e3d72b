-- The counted paths of samples.
use Rattle.std.proofs.Common.{◌≡◌, ℕ, ◌+◌, ◌==◌, ◌<◌, Bool, true, false, cond, not, List, [], ◌∷◌, length, map, filter, count_by, All, refl, sym, ◌∙◌, arith}
use Rattle.std.specs.List.{list_any, range_with_len}
use Rattle.std.proofs.lemmas.Bool.{or_parts, or_from}
use Rattle.std.proofs.lemmas.List.{length-map}
use Rattle.std.proofs.lemmas.List.Elements.{All-cons, All-filter, All-head, All-map, All-nil, All-tail}
use Rattle.std.proofs.lemmas.List.Sums.{sum_by-cons}
use Rattle.scope_types.specs.declared.frame.Counted.{Counted}
use Rattle.scope_types.specs.CallPaths.{ColumnPath}
use Rattle.scope_types.specs.Distinct.{ColumnRaw, counted_paths, distinct, each_sample, raws_of, samples_in}
use Rattle.scope_types.specs.Raw.{HasFrames, Raw, same_raw}
use Rattle.thread_cct.proofs.Samples.{length_is, samples_alike}
use Rattle.measure_file.specs.Measurable.{AreDistinct, AreMeasured, AreSampled, HasWord, IsCounted}
use Rattle.measure_file.proofs.EachSample.{samples_many}

-- ---- the paths of one column

abbrev IsRaw : Raw → Type 0
IsRaw raw = HasFrames raw.frames × All HasWord raw.frames

paths_counted : (raws : List Raw) → All IsRaw raws → All IsCounted (counted_paths raws)
paths_counted [] are = All-nil IsCounted
paths_counted (raw ∷ raws) are =
    let first = All-head IsRaw raw raws are in
    let rest : List Counted = filter (λ c. not (same_raw raw c.path)) (counted_paths raws) in
    All-cons IsCounted (record { path = raw; count = 1 + count_by (same_raw raw) raws }) rest (record { count = omega arith; frames = first.0; addresses = first.1 })
    (All-filter (λ c. not (same_raw raw c.path)) IsCounted (counted_paths raws) (paths_counted raws (All-tail IsRaw raw raws are)))

-- what was left out isn't there
left_out : {X : Type 0} (p : X → Bool) (xs : List X) → list_any p (filter (λ x. not (p x)) xs) ≡ false
left_out p [] = refl
left_out p (x ∷ xs) =
    let rest = filter (λ x. not (p x)) xs in
    elim (p x) as (λ b. p x ≡ b → list_any p (cond (not b) (x ∷ rest) rest) ≡ false) [
      | true ↦ λ e. left_out p xs
      | false ↦ λ e. or_from (p x) (list_any p rest) e (left_out p xs)
    ] refl

absent_still : {X : Type 0} (p q : X → Bool) (xs : List X) → list_any p xs ≡ false → list_any p (filter q xs) ≡ false
absent_still p q [] absent = refl
absent_still p q (x ∷ xs) absent =
    let parts = or_parts (p x) (list_any p xs) absent in
    let rest = absent_still p q xs parts.1 in
    elim (q x) as (λ b. list_any p (cond b (x ∷ filter q xs) (filter q xs)) ≡ false) [
      | true ↦ or_from (p x) (list_any p (filter q xs)) parts.0 rest
      | false ↦ rest
    ]

distinct_still : (q : Counted → Bool) (cs : List Counted) → AreDistinct cs → AreDistinct (filter q cs)
distinct_still q [] are = tt
distinct_still q (c ∷ cs) are =
    let rest = distinct_still q cs are.1 in
    elim (q c) as (λ b. AreDistinct (cond b (c ∷ filter q cs) (filter q cs))) [
      | true ↦ (absent_still (λ x. same_raw c.path x.path) q cs are.0, rest)
      | false ↦ rest
    ]

paths_distinct : (raws : List Raw) → AreDistinct (counted_paths raws)
paths_distinct [] = tt
paths_distinct (raw ∷ raws) = (left_out (λ c. same_raw raw c.path) (counted_paths raws), distinct_still (λ c. not (same_raw raw c.path)) (counted_paths raws) (paths_distinct raws))

-- ---- as many as there are samples

count_all : {X : Type 0} (xs : List X) → count_by (λ x. true) xs ≡ length xs
count_all [] = refl
count_all {X} (x ∷ xs) = (let parts = sum_by-cons (λ (x : X). 1) x xs in let rest = count_all xs in omega (arith, parts, rest))

abbrev pathless : ColumnRaw → ColumnPath
pathless s = record { column = s.column; path = [] }

all_counted : (columns : ℕ) (samples : List ColumnRaw) → All (λ s. s.column < columns) samples → samples_in (distinct columns samples) ≡ length samples
all_counted columns samples own =
    let each : List ColumnRaw = each_sample (distinct columns samples) in
    sym (samples_many (distinct columns samples)) ∙ sym (length-map each pathless) ∙ sym (count_all (map pathless each))
    ∙ (samples_alike columns samples pathless own).same (λ p. true) ∙ count_all (map pathless samples) ∙ length-map samples pathless

pub sampled_measured : (columns : ℕ) (samples : List ColumnRaw) → AreSampled columns samples → AreMeasured (distinct columns samples)
unfolding distinct
sampled_measured columns samples are =
    let many = length_is columns samples in
    let all = all_counted columns samples are.own in
    let most = are.sampled in
    let table_of : ℕ → List Counted = λ column. counted_paths (raws_of samples column) in
    let raws : (column : ℕ) → All IsRaw (raws_of samples column) = λ column.
    All-map IsRaw (λ (s : ColumnRaw). s.raw) (filter (λ s. s.column == column) samples)
    (All-filter (λ s. s.column == column) (λ (s : ColumnRaw). IsRaw s.raw) samples (λ k d lt. (are.paths k d lt, are.addresses k d lt))) in
    record {
      paths = All-map (All IsCounted) table_of (range_with_len 0 columns) (λ k d lt. paths_counted (raws_of samples _) (raws _));
      distinct = All-map AreDistinct table_of (range_with_len 0 columns) (λ k d lt. paths_distinct (raws_of samples _));
      samples = omega (arith, all, most);
      frames = are.frames;
    }
