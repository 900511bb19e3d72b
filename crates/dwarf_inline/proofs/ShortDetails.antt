-- Details in few bytes.
use Rattle.std.proofs.Common.{◌≡◌, ℕ, zero, suc, ◌+◌, ◌<◌, List, [], ◌∷◌, ◌++◌, length, take, get_or, refl, ap, ◌∙◌, arith}
use Rattle.std.specs.Prelude.{sum_by}
use Rattle.std.proofs.lemmas.List.Sums.{sum_by-cons}
use Rattle.dwarf_inline.specs.declared.details.Detail.{Detail}
use Rattle.dwarf_inline.specs.private.ShortDetails.{ShortDetail, count_ranges, whole, wholes}

-- ---- whole details

pub wholes_long : (n : ℕ) (ds : List ShortDetail) → length (wholes n ds) ≡ length ds
unfolding wholes
wholes_long n [] = refl
wholes_long n (d ∷ ds) = ap suc (wholes_long (n + d.range_count) ds)

pub wholes_at : (n : ℕ) (ds : List ShortDetail) (k : ℕ) (d : ShortDetail) (x : Detail) → k < length ds → get_or (wholes n ds) k x ≡ whole (n + count_ranges (take k ds)) (get_or ds k d)
unfolding wholes
wholes_at n [] k d x lt = absurd (omega arith)
wholes_at n (e ∷ ds) zero d x lt = ap (λ (m : ℕ). whole m e) (let z : n ≡ n + 0 = omega arith in z)
wholes_at n (e ∷ ds) (suc k) d x lt =
    wholes_at (n + e.range_count) ds k d x (omega arith)
    ∙ ap (λ (m : ℕ). whole m (get_or ds k d)) (let z : n + e.range_count + count_ranges (take k ds) ≡ n + count_ranges (e ∷ take k ds) = omega (arith, sum_by-cons (λ (d : ShortDetail). d.range_count) e (take k ds)) in z)

pub wholes_more : (n : ℕ) (ds : List ShortDetail) (d : ShortDetail) → wholes n (ds ++ d ∷ []) ≡ wholes n ds ++ whole (n + count_ranges ds) d ∷ []
unfolding wholes
wholes_more n [] d = ap (λ (m : ℕ). whole m d ∷ []) (let z : n ≡ n + 0 = omega arith in z)
wholes_more n (e ∷ ds) d =
    ap (λ (rest : List Detail). whole n e ∷ rest) (wholes_more (n + e.range_count) ds d
    ∙ ap (λ (m : ℕ). wholes (n + e.range_count) ds ++ whole m d ∷ []) (let z : n + e.range_count + count_ranges ds ≡ n + count_ranges (e ∷ ds) = omega (arith, sum_by-cons (λ (d : ShortDetail). d.range_count) e ds) in z))

pub wholes_count : (n : ℕ) (ds : List ShortDetail) → sum_by (λ d. d.range_count) (wholes n ds) ≡ count_ranges ds
unfolding wholes
wholes_count n [] = refl
wholes_count n (d ∷ ds) =
    omega (arith, sum_by-cons (λ (d : ShortDetail). d.range_count) d ds, sum_by-cons (λ (d : Detail). d.range_count) (whole n d) (wholes (n + d.range_count) ds), wholes_count (n + d.range_count) ds)
