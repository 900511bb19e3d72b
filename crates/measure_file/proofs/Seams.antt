-- The paths of one column among those of all columns.
use Rattle.std.proofs.Common.{◌≡◌, ℕ, ◌+◌, ◌<◌, ◌≤◌, false, List, [], ◌∷◌, ◌++◌, length, sum_by, All, refl, ap, subst, ◌∙◌, arith}
use Rattle.std.specs.Prelude.{slice_set}
use Rattle.std.proofs.Math.Seq.{set-append_seam, get_or-append_seam}
use Rattle.std.proofs.lemmas.Bool.{or_parts, or_from}
use Rattle.std.proofs.lemmas.List.{length-append}
use Rattle.std.proofs.lemmas.List.Elements.{All-append, All-cons, All-nil, All-set}
use Rattle.std.proofs.lemmas.List.Folds.{list_any-append}
use Rattle.std.proofs.lemmas.List.Sums.{sum_by-cons, sum_by-append}
use Rattle.scope_types.specs.declared.frame.Counted.{Counted}
use Rattle.scope_types.specs.Distinct.{frames_in, samples_in}
use Rattle.scope_types.specs.Limits.{most_frames_in_all, most_samples}
use Rattle.scope_types.specs.Raw.{same_raw}
use Rattle.scope_types.specs.private.SameRaw.{raw_equiv}
use Rattle.thread_cct.specs.Adding.{has_path, of_column, with_path}
use Rattle.measure_file.specs.Measurable.{AreDistinct, AreMeasured, IsCounted}

abbrev pub Tables : Type 0
Tables = List (List Counted)

abbrev pub count_of : Counted → ℕ
count_of c = c.count

abbrev pub frames_of : Counted → ℕ
frames_of c = length c.path.frames

-- ---- one column's

pub own_of : (done rest : Tables) (own : List Counted) → of_column (done ++ own ∷ rest) (length done) ≡ own
own_of done rest own = get_or-append_seam done own rest []

pub own_put : (done rest : Tables) (own : List Counted) (c : Counted) → with_path (done ++ own ∷ rest) (length done) c ≡ done ++ (own ++ c ∷ []) ∷ rest
own_put done rest own c =
    ap (λ (cs : List Counted). slice_set (done ++ own ∷ rest) (length done) (cs ++ c ∷ [])) (own_of done rest own)
    ∙ set-append_seam done own rest (own ++ c ∷ [])

pub own_sum : (f : Counted → ℕ) (done rest : Tables) (own : List Counted) → sum_by (sum_by f) (done ++ own ∷ rest) ≡ sum_by (sum_by f) done + sum_by f own + sum_by (sum_by f) rest
own_sum f done rest own =
    let parts = sum_by-append (sum_by f) done (own ∷ rest) in
    let one = sum_by-cons (sum_by f) own rest in
    omega (arith, parts, one)

pub sum_more : (f : Counted → ℕ) (done rest : Tables) (own : List Counted) (c : Counted) → sum_by (sum_by f) (done ++ (own ++ c ∷ []) ∷ rest) ≡ sum_by (sum_by f) (done ++ own ∷ rest) + f c
sum_more f done rest own c =
    let new = own_sum f done rest (own ++ c ∷ []) in
    let old = own_sum f done rest own in
    let parts = sum_by-append f own (c ∷ []) in
    let last = sum_by-cons f c [] in
    omega (arith, new, old, parts, last)

-- where one column's are others
pub own_changed : (P : List Counted → Type 0) (done rest : Tables) (own new : List Counted) → (P own → P new) → All P (done ++ own ∷ rest) → All P (done ++ new ∷ rest)
own_changed P done rest own new change all =
    let within : length done < length (done ++ own ∷ rest) = (let parts = length-append done (own ∷ rest) in omega (arith, parts)) in
    let before : P own = subst P (get_or-append_seam done own rest []) (all (length done) [] within) in
    subst (All P) (set-append_seam done own rest new) (All-set P (done ++ own ∷ rest) (length done) new (change before) all)

-- ---- a path that is new to its column

pub distinct_more : (cs : List Counted) (c : Counted) → has_path c.path cs ≡ false → AreDistinct cs → AreDistinct (cs ++ c ∷ [])
distinct_more [] c new are = (refl, tt)
distinct_more (d ∷ cs) c new are =
    let parts = or_parts (same_raw c.path d.path) (has_path c.path cs) new in
    let other : same_raw d.path c.path ≡ false = raw_equiv.symm d.path c.path ∙ parts.0 in
    let last : has_path d.path (c ∷ []) ≡ false = or_from (same_raw d.path c.path) false other refl in
    let first : has_path d.path (cs ++ c ∷ []) ≡ false =
    list_any-append (λ (x : Counted). same_raw d.path x.path) cs (c ∷ []) ∙ or_from (has_path d.path cs) (has_path d.path (c ∷ [])) are.0 last in
    (first, distinct_more cs c parts.1 are.1)

pub measured_more : (done rest : Tables) (own : List Counted) (c : Counted) → AreMeasured (done ++ own ∷ rest) → IsCounted c → has_path c.path own ≡ false
    → samples_in (done ++ own ∷ rest) + c.count ≤ most_samples → frames_in (done ++ own ∷ rest) + length c.path.frames ≤ most_frames_in_all
    → AreMeasured (done ++ (own ++ c ∷ []) ∷ rest)
measured_more done rest own c are counted new few short =
    let samples = sum_more count_of done rest own c in
    let frames = sum_more frames_of done rest own c in
    record {
      paths = own_changed (All IsCounted) done rest own (own ++ c ∷ []) (λ all. All-append IsCounted own (c ∷ []) all (All-cons IsCounted c [] counted (All-nil IsCounted))) are.paths;
      distinct = own_changed AreDistinct done rest own (own ++ c ∷ []) (λ all. distinct_more own c new all) are.distinct;
      samples = omega (arith, samples, few);
      frames = omega (arith, frames, short);
    }
