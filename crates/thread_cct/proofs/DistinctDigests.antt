-- Paths whose digests all differ: none is there twice.
use Rattle.std.proofs.Common.{◌≡◌, inl, inr, ℕ, ◌==◌, Bool, true, false, List, [], ◌∷◌, map, take, drop, fold, reverse, get_or, refl, sym, ap, ap₂, subst, ◌∙◌, arith, true≢false}
use Rattle.indexmap.proofs.ReorderLemmas.{map-reverse}
use Rattle.std.specs.List.{IsDistinct}
use Rattle.std.specs.List.Sorted.{IsPermutation, IsStrictlyIncreasing}
use Rattle.std.proofs.lemmas.Bool.{cases_eq, eq-eqb, ne_eqb}
use Rattle.std.proofs.lemmas.List.{get_or-map, length-map}
use Rattle.std.proofs.lemmas.List.Sorted.{IsPermutation-sym}
use Rattle.std.proofs.lemmas.Map.Keys.{IsDistinct-from_apart, IsDistinct-IsPermutation, apart_from_distinct, below_from_sorted, sorted_from_strictly_increasing}
use Rattle.std.proofs.lemmas.Option.{get_or_from_slice_get}
use Rattle.scope_types.specs.declared.frame.Counted.{Counted}
use Rattle.scope_types.specs.declared.frame.Frame.{Frame}
use Rattle.scope_types.specs.Ends.{end_number}
use Rattle.scope_types.specs.Raw.{Raw}
use Rattle.thread_cct.specs.declared.path_list.ListedPath.{ListedPath}
use Rattle.thread_cct.specs.Listing.{frame_at, is_repeat, HasNoRepeat}
use Rattle.thread_cct.specs.private.Digests.{with_address, digest_at}
use Rattle.thread_cct.specs.private.Listed.{listed_paths}
use Rattle.thread_cct.proofs.FirstRepeat.{RepeatsAt, repeats_at}

-- ---- the digest of a path

abbrev with_frame : ℕ → Frame → ℕ
with_frame digest f = with_address digest f.pc

abbrev digest_of : Raw → ℕ
digest_of raw = fold with_frame (end_number raw.end) (reverse raw.frames)

abbrev digest_of_counted : Counted → ℕ
digest_of_counted c = digest_of c.path

folds : (digest : ℕ) (pcs : List ℕ) → fold with_frame digest (map frame_at pcs) ≡ fold with_address digest pcs
folds digest [] = refl
folds digest (pc ∷ pcs) = folds (with_address digest pc) pcs

folds_back : (digest : ℕ) (pcs : List ℕ) → fold with_frame digest (reverse (map frame_at pcs)) ≡ fold with_address digest (reverse pcs)
folds_back digest pcs = ap (λ (fs : List Frame). fold with_frame digest fs) (sym (map-reverse frame_at pcs)) ∙ folds digest (reverse pcs)

digests_are : (pcs : List ℕ) (paths : List ListedPath) → map digest_of_counted (listed_paths pcs paths) ≡ map (digest_at pcs) paths
digests_are pcs [] = refl
digests_are pcs (p ∷ paths) = ap₂ (λ (d : ℕ) (ds : List ℕ). d ∷ ds) (folds_back (end_number p.end) (take p.length (drop p.first pcs))) (digests_are pcs paths)

-- ---- numbers that all differ

abbrev same : ℕ → ℕ → Bool
same a b = a == b

flips : (a b : ℕ) → same a b ≡ same b a
flips a b = elim (cases_eq a b) [ inl is ↦ eq-eqb a b is ∙ sym (eq-eqb b a (sym is)) | inr apart ↦ ne_eqb a b apart ∙ sym (ne_eqb b a (λ e. apart (sym e))) ]

all_differ : (numbers sorted : List ℕ) → IsPermutation numbers sorted → IsStrictlyIncreasing sorted → IsDistinct same numbers
all_differ numbers sorted moved up =
    IsDistinct-IsPermutation same flips sorted numbers (IsPermutation-sym numbers sorted moved)
    (IsDistinct-from_apart same sorted (λ i j d lt within.
    let less = below_from_sorted sorted i j d (sorted_from_strictly_increasing sorted up) lt within in
    ne_eqb (get_or sorted i d) (get_or sorted j d) (λ e. absurd (omega (arith, less, e)))))

-- ---- no path is there twice

none_twice : (cs : List Counted) → IsDistinct same (map digest_of_counted cs) → HasNoRepeat cs
none_twice cs differ k =
    elim (is_repeat cs k) as (λ t. is_repeat cs k ≡ t → t ≡ false) [
      | true ↦ λ e. (
          let r : RepeatsAt cs k = repeats_at cs k e in
          let less = r.less in
          let within = r.within in
          let ds : List ℕ = map digest_of_counted cs in
          let many = length-map cs digest_of_counted in
          let apart : same (get_or ds r.before 0) (get_or ds k 0) ≡ false = apart_from_distinct same ds r.before k 0 differ less (omega (arith, many, within)) in
          let before : get_or ds r.before 0 ≡ digest_of r.first.path = get_or-map digest_of_counted cs r.before r.first 0 (omega (arith, less, within)) ∙ ap digest_of_counted (get_or_from_slice_get cs r.before r.first r.first r.at_before) in
          let here : get_or ds k 0 ≡ digest_of r.second.path = get_or-map digest_of_counted cs k r.second 0 within ∙ ap digest_of_counted (get_or_from_slice_get cs k r.second r.second r.at) in
          let is : get_or ds r.before 0 ≡ get_or ds k 0 = before ∙ ap digest_of r.same ∙ sym here in
          absurd (true≢false (sym (eq-eqb (get_or ds r.before 0) (get_or ds k 0) is) ∙ apart)))
      | false ↦ λ e. refl
    ] refl

pub apart : (pcs : List ℕ) (paths : List ListedPath) (digests sorted : List ℕ) → digests ≡ map (digest_at pcs) paths → IsPermutation digests sorted → IsStrictlyIncreasing sorted → HasNoRepeat (listed_paths pcs paths)
apart pcs paths digests sorted are moved up =
    none_twice (listed_paths pcs paths) (subst (IsDistinct same) (are ∙ sym (digests_are pcs paths)) (all_differ digests sorted moved up))
