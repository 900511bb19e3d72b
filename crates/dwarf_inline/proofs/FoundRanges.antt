-- Ranges that are found, as what is kept of them grows.
use Rattle.std.proofs.Common.{◌≡◌, ℕ, zero, suc, ◌+◌, ◌-◌, ◌<◌, ◌≤◌, ◌^◌, Bool, true, false, List, [], ◌∷◌, ◌++◌, length, take, drop, get_or, Some, inl, inr, refl, sym, ap, ◌∙◌, subst, arith, length-append}
use Rattle.std.specs.Prelude.{filter, not, sum_by, nat_lt, slice_get, if◌then◌else◌}
use Rattle.std.specs.List.{flat_map}
use Rattle.std.proofs.Math.Seq.{get_or-append_seam, take-length, drop-append_seam, take-append_seam, drop-append-add}
use Rattle.std.proofs.lemmas.Grind.{flat_map-append}
use Rattle.std.proofs.lemmas.List.{get_or_append_left, append-nil, length-drop, take-append-le, drop-append-le}
use Rattle.std.proofs.lemmas.List.Filters.{length-filter_both}
use Rattle.std.proofs.lemmas.List.Folds.{length-flat_map-take}
use Rattle.std.proofs.lemmas.List.Sums.{sum_by-cons}
use Rattle.std.proofs.lemmas.Bool.{cases_lt}
use Rattle.std.proofs.lemmas.Bool.Decides.{nat_tests}
use Rattle.std.proofs.lemmas.Option.{slice_get_within, slice_get-get_or, same_Some}
use Rattle.elf_image.specs.Image.{ProgramImage, counts}
use Rattle.elf_image.specs.declared.part.Segment.{Segment}
use Rattle.dwarf_info.specs.declared.range_source.RangeSource.{RangeSource}
use Rattle.dwarf_info.specs.declared.range_source.ListPlace.{ListPlace}
use Rattle.dwarf_info.specs.Ranges.{place_ranges, ranges_of}
use Rattle.dwarf_info.specs.Sections.{Sections}
use Rattle.dwarf_info.specs.Units.{DebugInfo}
use Rattle.dwarf_inline.specs.declared.details.Detail.{Detail}
use Rattle.dwarf_inline.specs.declared.found_ranges.FoundRanges.{FoundRanges}
use Rattle.dwarf_inline.specs.declared.found_ranges.KnownList.{KnownList}
use Rattle.dwarf_inline.specs.declared.found_ranges.RangeStore.{RangeStore}
use Rattle.dwarf_inline.specs.Sources.{counted_source}
use Rattle.dwarf_inline.specs.Structure.{counted_ranges}
use Rattle.dwarf_inline.specs.private.Found.{AreFound, AreKnown, Grows, HasFound, IsKnown, IsOwn, IsStored, IsThere, Store, all_ranges, detail_at, first_source, first_start, grown, no_detail, no_source, own_ranges, ranges_at, store_of, stored}

-- ---- parts of lists

pub part_stays : {X : Type 0} (first count : ℕ) (xs ys : List X) → first + count ≤ length xs → take count (drop first (xs ++ ys)) ≡ take count (drop first xs)
part_stays first count xs ys within =
    ap (take count) (drop-append-le first xs ys (omega arith))
    ∙ take-append-le count (drop first xs) ys (omega (arith, length-drop first xs))

-- what was appended
pub tail_is : {X : Type 0} (xs ys zs : List X) (at : ℕ) → zs ≡ xs ++ ys → at ≡ length xs → take (length zs - at) (drop at zs) ≡ ys
tail_is xs ys zs at same first =
    let long : length zs - at ≡ length ys = omega (arith, ap length same, length-append xs ys) in
    rw (long, same, first, drop-append_seam xs ys) (take-length ys)

-- no more pass than there are
pub filter_few : {X : Type 0} (p : X → Bool) (xs : List X) → length (filter p xs) ≤ length xs
filter_few p xs = omega (arith, length-filter_both p (λ x. not (p x)) (λ x. refl) xs)

older : (details : List Detail) (d : Detail) (k : ℕ) → k < length details → detail_at (details ++ d ∷ []) k ≡ detail_at details k
older details d k lt = get_or_append_left details (d ∷ []) no_detail k lt

newest : (details : List Detail) (d : Detail) (k : ℕ) → k ≡ length details → detail_at (details ++ d ∷ []) k ≡ d
newest details d k is = ap (detail_at (details ++ d ∷ [])) is ∙ get_or-append_seam details d [] no_detail

one_longer : {X : Type 0} (xs : List X) (x : X) → length (xs ++ x ∷ []) ≡ length xs + 1
one_longer xs x = length-append xs (x ∷ [])

empty_of : {X : Type 0} (xs : List X) → length xs ≡ 0 → xs ≡ []
empty_of [] is = refl
empty_of (x ∷ xs) is = absurd (omega arith)

-- the lists of elements, one after another: each is where those before end
part_at : {X Y : Type 0} (f : X → List Y) (xs : List X) (k : ℕ) (d : X) → k < length xs → take (length (f (get_or xs k d))) (drop (length (flat_map f (take k xs))) (flat_map f xs)) ≡ f (get_or xs k d)
part_at f [] k d lt = absurd (omega arith)
part_at f (x ∷ xs) zero d lt = take-append_seam (f x) (flat_map f xs)
part_at f (x ∷ xs) (suc k) d lt =
    ap (λ (n : ℕ). take (length (f (get_or xs k d))) (drop n (f x ++ flat_map f xs))) (length-append (f x) (flat_map f (take k xs)))
    ∙ ap (take (length (f (get_or xs k d)))) (drop-append-add (f x) (flat_map f xs) (length (flat_map f (take k xs))))
    ∙ part_at f xs k d (omega arith)

-- ---- what is kept grows

pub low : (at : ℕ) → at < first_source → nat_lt at first_source ≡ true
low at lt = grind (arith, nat_tests)

pub high : (at : ℕ) → first_source ≤ at → nat_lt at first_source ≡ false
high at le = grind (arith, nat_tests)

pub ranges_stay : (s : Store) (more : List (ℕ × ℕ)) (sources : List RangeSource) (at count : ℕ) → IsThere s at count → ranges_at (grown s more sources) at count ≡ ranges_at s at count
ranges_stay s more sources at count there = elim (cases_lt at first_source) [
  | inl lt ↦ rw (low at lt) (part_stays at count s.ranges more (there.kept lt))
  | inr ge ↦ rw (high at ge) (ap (counted_source s.sections s.segments) (get_or_append_left s.sources sources no_source (at - first_source) (there.again ge)))
]

still_there : (s : Store) (more : List (ℕ × ℕ)) (sources : List RangeSource) (at count : ℕ) → IsThere s at count → IsThere (grown s more sources) at count
still_there s more sources at count there = record {
  kept = λ lt. let was = there.kept lt in omega (arith, length-append s.ranges more);
  again = λ ge. let was = there.again ge in omega (arith, length-append s.sources sources);
  count = ap length (ranges_stay s more sources at count there) ∙ there.count;
}

still_own : (s : Store) (more : List (ℕ × ℕ)) (sources : List RangeSource) (f : FoundRanges) (own : List (ℕ × ℕ)) → IsOwn s f own → IsOwn (grown s more sources) f own
still_own s more sources f own is = record {
  there = still_there s more sources f.at f.count is.there;
  ranges = ranges_stay s more sources f.at f.count is.there ∙ is.ranges;
  first = is.first;
  few = is.few;
}

still_known : (s : Store) (more : List (ℕ × ℕ)) (sources : List RangeSource) (l : KnownList) → IsKnown s l → IsKnown (grown s more sources) l
still_known s more sources l is = record {
  list = is.list;
  read = is.read;
  own = still_own s more sources l.found (filter (λ r. counts s.segments r.0 r.1) is.list) is.own;
}

pub known_stay : (s s' : Store) (lists : List KnownList) → Grows s s' → AreKnown s lists → AreKnown s' lists
known_stay s s' lists grows known = subst (λ (t : Store). AreKnown t lists) (sym grows.is) (λ k d lt. still_known s grows.ranges grows.sources (get_or lists k d) (known k d lt))

-- ---- the ranges of details

all_stay : (s : Store) (more : List (ℕ × ℕ)) (sources : List RangeSource) (k : ℕ) (details : List Detail)
    → ((j : ℕ) → j < length details → IsThere s (detail_at details j).at (detail_at details j).range_count)
    → all_ranges (grown s more sources) (take k details) ≡ all_ranges s (take k details)
all_stay s more sources zero details there = refl
all_stay s more sources (suc k) [] there = refl
all_stay s more sources (suc k) (d ∷ details) there =
    rw (ranges_stay s more sources d.at d.range_count (there 0 (omega arith)), all_stay s more sources k details (λ j lt. there (suc j) (omega arith))) refl

whole_stays : (s : Store) (more : List (ℕ × ℕ)) (sources : List RangeSource) (details : List Detail) → AreFound s details → all_ranges (grown s more sources) details ≡ all_ranges s details
whole_stays s more sources details are = rw (take-length details) at (all_stay s more sources (length details) details are.there)

pub found_stay : (s : Store) (more : List (ℕ × ℕ)) (sources : List RangeSource) (details : List Detail) → AreFound s details → AreFound (grown s more sources) details
found_stay s more sources details are = record {
  there = λ k lt. still_there s more sources (detail_at details k).at (detail_at details k).range_count (are.there k lt);
  first = λ k lt. are.first k lt ∙ ap length (sym (all_stay s more sources k details are.there));
}

pub none_found : (s : Store) → AreFound s []
none_found s = record { there = λ k lt. absurd (omega arith); first = λ k lt. absurd (omega arith) }

all_more : (s : Store) (details : List Detail) (d : Detail) → all_ranges s (details ++ d ∷ []) ≡ all_ranges s details ++ own_ranges s d
all_more s details d = flat_map-append (own_ranges s) details (d ∷ []) ∙ ap (λ (rs : List (ℕ × ℕ)). all_ranges s details ++ rs) (append-nil (own_ranges s d))

found_more : (s : Store) (details : List Detail) (d : Detail) → AreFound s details → IsThere s d.at d.range_count → d.first_range ≡ length (all_ranges s details) → AreFound s (details ++ d ∷ [])
found_more s details d are there first = record {
  there = λ k lt. elim (cases_lt k (length details)) [
    | inl less ↦ rw (older details d k less) (are.there k less)
    | inr ge ↦ let e : k ≡ length details = (let l = one_longer details d in omega arith) in rw (newest details d k e) there
  ];
  first = λ k lt. elim (cases_lt k (length details)) [
    | inl less ↦ rw (older details d k less, take-append-le k details (d ∷ []) (omega arith)) (are.first k less)
    | inr ge ↦ let e : k ≡ length details = (let l = one_longer details d in omega arith) in rw (newest details d k e, e, take-append_seam details (d ∷ [])) first
  ];
}

-- their number is the sum of those of all
pub all_counted : (s : Store) (details : List Detail) → ((k : ℕ) → k < length details → IsThere s (detail_at details k).at (detail_at details k).range_count)
    → sum_by (λ d. d.range_count) details ≡ length (all_ranges s details)
all_counted s [] there = refl
all_counted s (d ∷ details) there =
    omega (
      arith,
      sum_by-cons (λ (d : Detail). d.range_count) d details,
      (there 0 (omega arith)).count,
      length-append (own_ranges s d) (all_ranges s details),
      all_counted s details (λ k lt. there (suc k) (omega arith)),
    )

-- a detail that was there, and begins where all end, has no range
nothing_more : (s : Store) (details : List Detail) (d : Detail) (place : ℕ) → AreFound s details → slice_get details place ≡ Some d → d.first_range ≡ length (all_ranges s details) → own_ranges s d ≡ []
nothing_more s details d place are there first =
    let lt : place < length details = slice_get_within details place d there in
    let is : detail_at details place ≡ d = same_Some _ _ (sym (slice_get-get_or details place no_detail lt) ∙ there) in
    let within : length (all_ranges s (take place details)) + length (own_ranges s (detail_at details place)) ≤ length (all_ranges s details) = length-flat_map-take (own_ranges s) details place no_detail lt in
    let before : (detail_at details place).first_range ≡ length (all_ranges s (take place details)) = are.first place lt in
    let one : d.first_range ≡ length (all_ranges s (take place details)) = rw is at before in
    let two : length (all_ranges s (take place details)) + length (own_ranges s d) ≤ length (all_ranges s details) = rw is at within in
    empty_of (own_ranges s d) (omega arith)

pub record Added (s : Store) (details : List Detail) (own : List (ℕ × ℕ)) (s' : Store) (details' : List Detail) : Type 0 where
  pub found : AreFound s' details'
  pub all : all_ranges s' details' ≡ all_ranges s details ++ own

added_in : (s : Store) (details : List Detail) (d : Detail) (place : ℕ) (new : Bool) → AreFound s details → IsThere s d.at d.range_count → d.first_range ≡ length (all_ranges s details)
    → slice_get (if new then details ++ d ∷ [] else details) place ≡ Some d → Added s details (own_ranges s d) s (if new then details ++ d ∷ [] else details)
added_in s details d place true are own first there = record { found = found_more s details d are own first; all = all_more s details d }
added_in s details d place false are own first there = record { found = are; all = sym (ap (λ (rs : List (ℕ × ℕ)). all_ranges s details ++ rs) (nothing_more s details d place are there first) ∙ append-nil (all_ranges s details)) }

pub added : (s s' : Store) (details details' : List Detail) (d : Detail) (f : FoundRanges) (own : List (ℕ × ℕ)) (place : ℕ) (new : Bool) → AreFound s details → IsStored s f own s'
    → d.at ≡ f.at → d.range_count ≡ f.count → d.first_range ≡ length (all_ranges s details) → slice_get details' place ≡ Some d → details' ≡ (if new then details ++ d ∷ [] else details)
    → Added s details own s' details'
added s s' details details' d f own place new are st at count first there grown_details =
    let t : Store = grown s st.grows.ranges st.grows.sources in
    let same : s' ≡ t = st.grows.is in
    let o : IsOwn t f own = subst (λ (u : Store). IsOwn u f own) same st.own in
    let stays : all_ranges t details ≡ all_ranges s details = whole_stays s st.grows.ranges st.grows.sources details are in
    let here : IsThere t d.at d.range_count = rw (at, count) o.there in
    let is : own_ranges t d ≡ own = rw (at, count) o.ranges in
    let a : Added t details (own_ranges t d) t (if new then details ++ d ∷ [] else details) =
    added_in t details d place new (found_stay s st.grows.ranges st.grows.sources details are) here (first ∙ ap length (sym stays)) (rw (← grown_details) there) in
    rw (same, grown_details) (record { found = a.found; all = a.all ∙ ap (λ (rs : List (ℕ × ℕ)). rs ++ own_ranges t d) stays ∙ ap (λ (rs : List (ℕ × ℕ)). all_ranges s details ++ rs) is })

-- ---- the ranges of a detail

pub own_part : (s : Store) (details : List Detail) (k : ℕ) → AreFound s details → k < length details
    → take (detail_at details k).range_count (drop (detail_at details k).first_range (all_ranges s details)) ≡ own_ranges s (detail_at details k)
own_part s details k are lt =
    let count : length (own_ranges s (detail_at details k)) ≡ (detail_at details k).range_count = (are.there k lt).count in
    ap (λ (n : ℕ). take (detail_at details k).range_count (drop n (all_ranges s details))) (are.first k lt)
    ∙ ap (λ (n : ℕ). take n (drop (length (all_ranges s (take k details))) (all_ranges s details))) (sym count)
    ∙ part_at (own_ranges s) details k no_detail lt

-- ---- one more is kept

pub kept_new : (sections : Sections) (segments : List Segment) (ranges own : List (ℕ × ℕ)) (sources : List RangeSource) (f : FoundRanges) → f.at ≡ length ranges → f.at < first_source → f.count ≡ length own → f.first ≡ first_start own → f.count < 2 ^ 31
    → IsStored (stored sections segments ranges sources) f own (stored sections segments (ranges ++ own) sources)
kept_new sections segments ranges own sources f at lt count first few =
    let is : ranges_at (stored sections segments (ranges ++ own) sources) f.at f.count ≡ own = rw (low f.at lt, at, count, drop-append_seam ranges own) (take-length own) in
    record {
      grows = record { ranges = own; sources = []; is = rw (append-nil sources) refl };
      own = record {
        there = record { kept = λ less. omega (arith, length-append ranges own); again = λ ge. absurd (omega arith); count = ap length is ∙ sym count };
        ranges = is;
        first = first;
        few = few;
      };
    }

pub unkept_new : (sections : Sections) (segments : List Segment) (ranges own : List (ℕ × ℕ)) (sources : List RangeSource) (source : RangeSource) (f : FoundRanges) → counted_source sections segments source ≡ own
    → f.at ≡ first_source + length sources → f.count ≡ length own → f.first ≡ first_start own → f.count < 2 ^ 31
    → IsStored (stored sections segments ranges sources) f own (stored sections segments ranges (sources ++ source ∷ []))
unkept_new sections segments ranges own sources source f gives at count first few =
    let ge : first_source ≤ f.at = omega arith in
    let back : f.at - first_source ≡ length sources = omega arith in
    let is : ranges_at (stored sections segments ranges (sources ++ source ∷ [])) f.at f.count ≡ own =
    rw (high f.at ge, back, get_or-append_seam sources source [] no_source) gives in
    record {
      grows = record { ranges = []; sources = source ∷ []; is = rw (append-nil ranges) refl };
      own = record {
        there = record { kept = λ less. absurd (omega arith); again = λ le. omega (arith, one_longer sources source); count = ap length is ∙ sym count };
        ranges = is;
        first = first;
        few = few;
      };
    }

pub own_count : (s : Store) (f : FoundRanges) (own : List (ℕ × ℕ)) → IsOwn s f own → f.count ≡ length own
own_count s f own is = sym is.there.count ∙ ap length is.ranges

-- ---- a list that is known, or read

no_growth : (sections : Sections) (segments : List Segment) (ranges : List (ℕ × ℕ)) (sources : List RangeSource) → Grows (stored sections segments ranges sources) (stored sections segments ranges sources)
no_growth sections segments ranges sources = record { ranges = []; sources = []; is = rw (append-nil ranges, append-nil sources) refl }

pub known_found : (info : DebugInfo) (image : ProgramImage) (i : ℕ) (r : RangeStore) (place : ListPlace) (f : FoundRanges)
    → AreKnown (store_of info.sections image.segments r) r.known.lists.items → IsKnown (store_of info.sections image.segments r) (record { place = place; found = f })
    → ((ranges : List (ℕ × ℕ)) → place_ranges info.sections place ≡ Some ranges → ranges_of info i ≡ ranges)
    → HasFound info.sections image.segments r f (counted_ranges info image i) r
known_found info image i r place f all known same =
    let own : IsOwn (store_of info.sections image.segments r) f (filter (λ r. counts image.segments r.0 r.1) known.list) = known.own in
    let is : ranges_of info i ≡ known.list = same known.list known.read in
    record {
      found = record {
        grows = no_growth info.sections image.segments r.ranges.items r.sources.items;
        own = subst (λ (rs : List (ℕ × ℕ)). IsOwn (store_of info.sections image.segments r) f (filter (λ r. counts image.segments r.0 r.1) rs)) (sym is) own;
      };
      known = all;
      few = omega arith;
    }

-- the list that was read is known
pub read_known : (info : DebugInfo) (image : ProgramImage) (i : ℕ) (s : Store) (place : ListPlace) (f : FoundRanges) → s.sections ≡ info.sections → s.segments ≡ image.segments
    → place_ranges info.sections place ≡ Some (ranges_of info i) → IsOwn s f (counted_ranges info image i) → IsKnown s (record { place = place; found = f })
read_known info image i s place f one two read own = record {
  list = ranges_of info i;
  read = rw one read;
  own = subst (λ (segments : List Segment). IsOwn s f (filter (λ r. counts segments r.0 r.1) (ranges_of info i))) (sym two) own;
}
