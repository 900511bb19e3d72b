-- How many samples a column has.
use Rattle.std.proofs.Common.{◌≡◌, ℕ, ◌+◌, ◌<◌, ◌≤◌, ◌==◌, Bool, true, false, cond, Some, take, drop, List, [], ◌∷◌, ◌++◌, length, filter, count_by, sum_by, refl, sym, ap, subst, ◌∙◌, arith, append-nil, append_assoc}
use Rattle.std.proofs.lemmas.List.{length-append, length-map, take-append-drop}
use Rattle.std.proofs.lemmas.List.Sums.{sum_by-append, sum_by-cons, sum_by_more}
use Rattle.std.proofs.lemmas.Option.{get_or_from_slice_get}
use Rattle.std.specs.Prelude.{slice_get}
use Rattle.scope_types.specs.declared.frame.Counted.{Counted}
use Rattle.scope_types.specs.Raw.{Raw}
use Rattle.scope_types.specs.Distinct.{ColumnRaw, counted_paths, distinct, raws_of}
use Rattle.thread_cct.specs.Adding.{samples_of_column}
use Rattle.thread_cct.proofs.Paths.{count_of, paths_more, samples_one}
use Rattle.thread_cct.proofs.Tables.{table_at}

counted_from : (done rest : List Raw) → sum_by count_of (counted_paths done) ≡ length done → sum_by count_of (counted_paths (done ++ rest)) ≡ length (done ++ rest)
counted_from done [] so_far = subst (λ (l : List Raw). sum_by count_of (counted_paths l) ≡ length l) (sym (append-nil done)) so_far
counted_from done (raw ∷ rest) so_far =
    let one : sum_by count_of (counted_paths (done ++ raw ∷ [])) ≡ sum_by count_of (counted_paths done) + 1 = ap (sum_by count_of) (sym (paths_more done raw)) ∙ samples_one raw (counted_paths done) in
    let long = length-append done (raw ∷ []) in
    let more : sum_by count_of (counted_paths (done ++ raw ∷ [])) ≡ length (done ++ raw ∷ []) = omega (arith, one, long, so_far) in
    subst (λ (l : List Raw). sum_by count_of (counted_paths l) ≡ length l) (append_assoc done (raw ∷ []) rest) (counted_from (done ++ raw ∷ []) rest more)

filtered : (t : ColumnRaw → Bool) (xs : List ColumnRaw) → length (filter t xs) ≡ count_by t xs
filtered t [] = refl
filtered t (x ∷ xs) =
    let rest = filtered t xs in
    let first = sum_by-cons (λ (x : ColumnRaw). cond (t x) 1 0) x xs in
    elim (t x) as (λ b. count_by t (x ∷ xs) ≡ cond b 1 0 + count_by t xs → length (cond b (x ∷ filter t xs) (filter t xs)) ≡ count_by t (x ∷ xs)) [
      | true ↦ λ e. omega (arith, rest, e)
      | false ↦ λ e. omega (arith, rest, e)
    ] first

-- one path more
pub samples_more : (cs : List Counted) (i : ℕ) (c : Counted) → i < length cs → slice_get cs i ≡ Some c → sum_by count_of (take i cs) + c.count ≡ sum_by count_of (take (i + 1) cs)
samples_more cs i c lt at = ap (λ (c : Counted). sum_by count_of (take i cs) + c.count) (sym (get_or_from_slice_get cs i c c at)) ∙ sym (sum_by_more count_of cs i c lt)

-- and with it no more than all
pub samples_small : (cs : List Counted) (i : ℕ) (c : Counted) → i < length cs → slice_get cs i ≡ Some c → sum_by count_of (take i cs) + c.count ≤ sum_by count_of cs
samples_small cs i c lt at =
    let more = samples_more cs i c lt at in
    let parts = sum_by-append count_of (take (i + 1) cs) (drop (i + 1) cs) in
    let same : sum_by count_of (take (i + 1) cs ++ drop (i + 1) cs) ≡ sum_by count_of cs = ap (sum_by count_of) (take-append-drop (i + 1) cs) in
    omega (arith, more, parts, same)

-- of each column as many are counted as it has
pub each_counted : (columns column : ℕ) (samples : List ColumnRaw) → column < columns → samples_of_column (distinct columns samples) column ≡ count_by (λ s. s.column == column) samples
unfolding distinct
each_counted columns column samples own =
    ap (sum_by count_of) (table_at columns samples column [] own) ∙ counted_from [] (raws_of samples column) refl
    ∙ length-map (filter (λ s. s.column == column) samples) (λ s. s.raw) ∙ filtered (λ s. s.column == column) samples
