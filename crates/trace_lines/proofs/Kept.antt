-- The distinct raw paths of a hart and the places of its samples among them, a sample at a time.
use Rattle.std.proofs.Common.{◌≡◌, ℕ, ◌<◌, ◌≤◌, Bool, true, false, cond, not, List, [], ◌∷◌, ◌++◌, length, filter, get_or, All, Option, Some, refl, sym, ap, subst, ◌∙◌, arith}
use Rattle.std.specs.Prelude.{slice_get}
use Rattle.std.specs.List.{IsDistinct, position}
use Rattle.std.proofs.lemmas.List.{get_or-map, get_or_append_left, length-append, length-map, map-append}
use Rattle.std.proofs.lemmas.List.Elements.{All-append, All-cons, All-head, All-nil, All-tail, All-weaker}
use Rattle.std.proofs.lemmas.List.Quantifiers.{position-Some}
use Rattle.std.proofs.lemmas.Option.{get_or_from_slice_get, slice_get-get_or, slice_get_within}
use Rattle.std.proofs.Math.Seq.{get_or-append_seam, take-length}
use Rattle.scope_types.specs.declared.frame.Counted.{Counted}
use Rattle.scope_types.specs.Raw.{Raw, same_raw}
use Rattle.scope_types.specs.Distinct.{counted_paths}
use Rattle.scope_types.specs.Limits.{most_samples}
use Rattle.scope_types.specs.private.SameRaw.{raw_decides}
use Rattle.indexmap.specs.IndexSet.{insert_key}
use Rattle.trace_lines.specs.Traces.{HartTrace, distinct_paths, has_raw, with_sample}
use Rattle.trace_lines.specs.Reading.{path_at}
use Rattle.trace_lines.specs.Spelling.{place_among}
use Rattle.trace_lines.specs.private.Paths.{ArePathsOf, samples_at}
use Rattle.trace_lines.proofs.Distinct.{among_distinct, are_distinct, known_distinct, new_distinct}
use Rattle.trace_lines.proofs.Places.{has_at, place_at}

abbrev path_of : Counted → Raw
path_of c = c.path

-- ---- counts

filter_few : {X : Type 0} (p : X → Bool) (xs : List X) → length (filter p xs) ≤ length xs
filter_few p [] = omega arith
filter_few p (x ∷ xs) = (let rest = filter_few p xs in elim (p x) as (λ b. length (cond b (x ∷ filter p xs) (filter p xs)) ≤ length (x ∷ xs)) [ true ↦ omega (arith, rest) | false ↦ omega (arith, rest) ])

few_counted : (raws : List Raw) → length (counted_paths raws) ≤ length raws
few_counted [] = omega arith
few_counted (r ∷ raws) = (let kept = filter_few (λ (c : Counted). not (same_raw r c.path)) (counted_paths raws) in let rest = few_counted raws in omega (arith, kept, rest))

-- distinct paths are no more than the samples
pub few_distinct : (raws : List Raw) → length (distinct_paths raws) ≤ length raws
few_distinct raws = (let counted = few_counted raws in let same = length-map (counted_paths raws) path_of in omega (arith, counted, same))

pub samples_long : (paths : List Raw) (places : List ℕ) → length (samples_at paths places) ≡ length places
samples_long paths places = length-map places (path_at paths)

pub few_paths : (paths : List Raw) (places : List ℕ) → ArePathsOf paths places → length paths ≤ length places
few_paths paths places are =
    let long = ap (λ (l : List Raw). length l) are.distinct in
    let few = few_distinct (samples_at paths places) in
    let same = samples_long paths places in
    omega (arith, long, few, same)

-- ---- one more

pub none_of : ArePathsOf [] []
none_of = record { distinct = refl; below = All-nil (λ p. p < 0); few = omega arith }

put_last : (paths : List Raw) (places : List ℕ) (raw : Raw) → ArePathsOf paths places → has_raw raw (samples_at paths places) ≡ false → insert_key same_raw paths raw ≡ paths ++ raw ∷ []
put_last paths places raw are new =
    let absent : has_raw raw paths ≡ false = ap (has_raw raw) are.distinct ∙ among_distinct raw (samples_at paths places) ∙ new in
    ap (λ (b : Bool). cond b paths (paths ++ raw ∷ [])) absent

same_at : (paths : List Raw) (raw : Raw) (places : List ℕ) → All (λ place. place < length paths) places → samples_at (paths ++ raw ∷ []) places ≡ samples_at paths places
same_at paths raw [] below = refl
same_at paths raw (p ∷ places) below =
    let here : path_at (paths ++ raw ∷ []) p ≡ path_at paths p = get_or_append_left paths (raw ∷ []) _ p (All-head (λ place. place < length paths) p places below) in
    let rest = same_at paths raw places (All-tail (λ place. place < length paths) p places below) in
    (λ i. here i ∷ rest i)

put_samples : (paths : List Raw) (places : List ℕ) (raw : Raw) → All (λ place. place < length paths) places → samples_at (paths ++ raw ∷ []) (places ++ length paths ∷ []) ≡ samples_at paths places ++ raw ∷ []
put_samples paths places raw below =
    let all : List Raw = paths ++ raw ∷ [] in
    let last : path_at all (length paths) ≡ raw = get_or-append_seam paths raw [] _ in
    let first = same_at paths raw places below in
    map-append (path_at all) places (length paths ∷ []) ∙ (λ i. first i ++ last i ∷ [])

-- a sample whose path is new
pub new_samples : (paths new_paths : List Raw) (places new_places : List ℕ) (raw : Raw) → ArePathsOf paths places → has_raw raw (samples_at paths places) ≡ false
    → new_paths ≡ insert_key same_raw paths raw → new_places ≡ places ++ length paths ∷ [] → samples_at new_paths new_places ≡ samples_at paths places ++ raw ∷ []
new_samples paths new_paths places new_places raw are new paths_are places_are =
    let put = paths_are ∙ put_last paths places raw are new in
    (λ i. samples_at (put i) (places_are i)) ∙ put_samples paths places raw are.below

pub new_of : (paths new_paths : List Raw) (places new_places : List ℕ) (raw : Raw) → ArePathsOf paths places → has_raw raw (samples_at paths places) ≡ false → length places < most_samples
    → new_paths ≡ insert_key same_raw paths raw → new_places ≡ places ++ length paths ∷ [] → ArePathsOf new_paths new_places
new_of paths new_paths places new_places raw are new room paths_are places_are =
    let samples : List Raw = samples_at paths places in
    let put : new_paths ≡ paths ++ raw ∷ [] = paths_are ∙ put_last paths places raw are new in
    let grown : samples_at new_paths new_places ≡ samples ++ raw ∷ [] = new_samples paths new_paths places new_places raw are new paths_are places_are in
    let more = length-append places (length paths ∷ []) in
    let long = length-append paths (raw ∷ []) in
    let places_long = ap (λ (l : List ℕ). length l) places_are in
    let paths_long = ap (λ (l : List Raw). length l) put in
    let Old : ℕ → Type 0 = λ place. place < length paths in
    let New : ℕ → Type 0 = λ place. place < length new_paths in
    let own : length paths < length new_paths = omega (arith, long, paths_long) in
    let rest : All New places = All-weaker Old New (λ place less. omega (arith, own, less)) places are.below in
    record {
      distinct = put ∙ ap (λ (l : List Raw). l ++ raw ∷ []) are.distinct ∙ sym (new_distinct samples raw new) ∙ sym (ap distinct_paths grown);
      below = subst (All New) (sym places_are) (All-append New places (length paths ∷ []) rest (All-cons New (length paths) [] own (All-nil New)));
      few = omega (arith, room, more, places_long);
    }

-- ---- a sample whose path is there

-- where the path at a place tests the same as another, it is that one
pub at_place : (paths : List Raw) (place : ℕ) (raw other : Raw) → slice_get paths place ≡ Some other → same_raw raw other ≡ true → slice_get paths place ≡ Some raw
at_place paths place raw other at same = at ∙ ap (λ (r : Raw). Some r) (sym ((raw_decides raw other).0 same))

-- and so it is at the first place where one tests the same
pub sought_at : (paths : List Raw) (place : ℕ) (raw : Raw) → position (same_raw raw) paths ≡ Some place → slice_get paths place ≡ Some raw
sought_at paths place raw is =
    let found = position-Some (same_raw raw) paths place raw is in
    at_place paths place raw (get_or paths place raw) (slice_get-get_or paths place raw found.0) found.1

found_raw : (paths : List Raw) (raw : Raw) (place : ℕ) → slice_get paths place ≡ Some raw → (place < length paths) × (path_at paths place ≡ raw)
found_raw paths raw place is = (slice_get_within paths place raw is, get_or_from_slice_get paths place raw _ is)

pub again_samples : (paths : List Raw) (places new_places : List ℕ) (raw : Raw) (place : ℕ) → slice_get paths place ≡ Some raw → new_places ≡ places ++ place ∷ []
    → samples_at paths new_places ≡ samples_at paths places ++ raw ∷ []
again_samples paths places new_places raw place is places_are =
    let found = found_raw paths raw place is in
    ap (samples_at paths) places_are ∙ map-append (path_at paths) places (place ∷ []) ∙ ap (λ (r : Raw). samples_at paths places ++ r ∷ []) found.1

pub again_there : (paths : List Raw) (places : List ℕ) (raw : Raw) (place : ℕ) → ArePathsOf paths places → slice_get paths place ≡ Some raw → has_raw raw (samples_at paths places) ≡ true
again_there paths places raw place are is =
    let found = found_raw paths raw place is in
    let there : has_raw (path_at paths place) paths ≡ true = subst (λ (l : List Raw). has_raw (path_at paths place) l ≡ true) (take-length paths) (has_at paths place (length paths) found.0 found.0) in
    sym (among_distinct raw (samples_at paths places)) ∙ ap (has_raw raw) (sym are.distinct) ∙ ap (λ (r : Raw). has_raw r paths) (sym found.1) ∙ there

pub again_of : (paths : List Raw) (places new_places : List ℕ) (raw : Raw) (place : ℕ) → ArePathsOf paths places → length places < most_samples → slice_get paths place ≡ Some raw
    → new_places ≡ places ++ place ∷ [] → ArePathsOf paths new_places
again_of paths places new_places raw place are room is places_are =
    let found = found_raw paths raw place is in
    let there = again_there paths places raw place are is in
    let more = length-append places (place ∷ []) in
    let places_long = ap (λ (l : List ℕ). length l) places_are in
    let P : ℕ → Type 0 = λ p. p < length paths in
    record {
      distinct = are.distinct ∙ sym (known_distinct (samples_at paths places) raw there) ∙ sym (ap distinct_paths (again_samples paths places new_places raw place is places_are));
      below = subst (All P) (sym places_are) (All-append P places (place ∷ []) are.below (All-cons P place [] found.0 (All-nil P)));
      few = omega (arith, room, more, places_long);
    }

-- whether a path is there
pub is_there : (paths : List Raw) (places : List ℕ) (raw : Raw) → ArePathsOf paths places → has_raw raw paths ≡ has_raw raw (samples_at paths places)
is_there paths places raw are = ap (has_raw raw) are.distinct ∙ among_distinct raw (samples_at paths places)

-- ---- as contracts see a hart

abbrev pub hart_of : ℕ → List Raw → HartTrace
hart_of retired samples = record { retired = retired; samples = samples }

pub room_in : (paths : List Raw) (places : List ℕ) (retired : ℕ) (h : HartTrace) → hart_of retired (samples_at paths places) ≡ h → length h.samples < most_samples → length places < most_samples
room_in paths places retired h view room =
    let long = samples_long paths places in
    let same = ap (λ (k : HartTrace). length k.samples) view in
    omega (arith, long, same, room)

pub grown : (retired : ℕ) (old new : List Raw) (h : HartTrace) (raw : Raw) → hart_of retired old ≡ h → new ≡ old ++ raw ∷ [] → hart_of retired new ≡ with_sample h raw
grown retired old new h raw view is = ap (hart_of retired) is ∙ ap (λ (k : HartTrace). with_sample k raw) view

-- the place of a sample
pub record IsPlaceOf (samples : List Raw) (sample place : ℕ) : Type 0 where
  pub among : place ≡ place_among (distinct_paths samples) (path_at samples sample)
  pub path : slice_get (distinct_paths samples) place ≡ Some (path_at samples sample)

place_in : (paths : List Raw) (places : List ℕ) (sample place : ℕ) → ArePathsOf paths places → sample < length places → place ≡ get_or places sample place → IsPlaceOf (samples_at paths places) sample place
place_in paths places sample place are own is =
    let samples : List Raw = samples_at paths places in
    let below : place < length paths = subst (λ (n : ℕ). n < length paths) (sym is) (are.below sample place own) in
    let path : path_at samples sample ≡ path_at paths place = get_or-map (path_at paths) places sample place _ own ∙ ap (path_at paths) (sym is) in
    let distinct : IsDistinct same_raw paths = subst (IsDistinct same_raw) (sym are.distinct) (are_distinct samples) in
    let at_place : slice_get paths place ≡ Some (path_at paths place) = slice_get-get_or paths place _ below in
    record {
      among = sym (place_at paths place distinct below) ∙ ap (place_among paths) (sym path) ∙ ap (λ (l : List Raw). place_among l (path_at samples sample)) are.distinct;
      path = ap (λ (l : List Raw). slice_get l place) (sym are.distinct) ∙ at_place ∙ ap (λ (r : Raw). Some r) (sym path);
    }

pub place_of : (paths : List Raw) (places : List ℕ) (retired : ℕ) (h : HartTrace) (sample place : ℕ) → ArePathsOf paths places → hart_of retired (samples_at paths places) ≡ h → sample < length h.samples
    → place ≡ get_or places sample place → IsPlaceOf h.samples sample place
place_of paths places retired h sample place are view own is =
    let long = samples_long paths places in
    let same = ap (λ (k : HartTrace). length k.samples) view in
    subst (λ (k : HartTrace). IsPlaceOf k.samples sample place) view (place_in paths places sample place are (omega (arith, long, same, own)) is)

-- two answers of one look-up
pub sample_is : (samples : List Raw) (sample : ℕ) (found : Option Raw) (raw : Raw) → sample < length samples → found ≡ Some (path_at samples sample) → found ≡ Some raw → slice_get samples sample ≡ Some raw
sample_is samples sample found raw own there is = slice_get-get_or samples sample _ own ∙ sym there ∙ is

pub ruleset place_steps = (at_place, sought_at)
