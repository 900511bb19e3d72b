-- What was read has just these bytes: the samples of a hart.
use Rattle.std.proofs.Common.{◌≡◌, ℕ, zero, suc, ◌+◌, ◌<◌, ◌≤◌, ◌==◌, Bool, true, List, [], ◌∷◌, ◌++◌, length, map, take, All, Ok, refl, sym, ap, subst, ◌∙◌, append_assoc, append-nil, arith}
use Rattle.std.specs.List.{IsDistinct, flat_map}
use Rattle.std.proofs.Math.Seq.{take-length}
use Rattle.std.proofs.lemmas.Bool.{and_parts, eqb-true, leb-true, ltb-true}
use Rattle.std.proofs.lemmas.List.{length-map}
use Rattle.std.proofs.lemmas.List.Elements.{All-cons, All-get_or, All-head, All-map, All-nil, All-tail, All-weaker}
use Rattle.prof_bytes.specs.Number.{IsBytes, word}
use Rattle.prof_bytes.specs.Reading.{At}
use Rattle.prof_bytes.specs.Repeated.{times}
use Rattle.prof_bytes.proofs.Outcomes.{bind_ok, pass_ok}
use Rattle.prof_bytes.proofs.Took.{Took, bytes_on, given, took_both, took_none}
use Rattle.scope_types.specs.Raw.{Raw, same_raw}
use Rattle.trace_lines.specs.Traces.{distinct_paths}
use Rattle.trace_lines.specs.Fields.{starting_at}
use Rattle.trace_lines.specs.Reading.{SamplesRead, is_place, path_at, sample_from, samples_from, with_place}
use Rattle.trace_lines.specs.Spelling.{place_among, places_bytes}
use Rattle.trace_lines.specs.private.Paths.{AreFirstSeen, samples_at, used_after}
use Rattle.trace_lines.proofs.Back.{ruled_behind}
use Rattle.trace_lines.proofs.Forth.{IsSpelled}
use Rattle.trace_lines.proofs.ForthSamples.{words_of}
use Rattle.trace_lines.proofs.Places.{distinct_at, place_at}

-- a place that was read
record PlaceBack (paths : List Raw) (before after : SamplesRead) (at next : At) (place : ℕ) : Type 0 where
  pub is : after ≡ with_place paths before place
  pub below : place < length paths
  pub seen : place ≤ before.used
  pub took : Took at next (word place)

place_back : (paths : List Raw) (before after : SamplesRead) (at next : At) → IsBytes at.whole → sample_from paths before at ≡ Ok (after, next) → (place : ℕ) × PlaceBack paths before after at next place
unfolding sample_from
place_back paths before after at next bytes is =
    let a = ruled_behind (is_place (length paths) before.used) at _ _ bytes is in
    let parts = and_parts _ _ a.passes in (
      a.value,
      given (λ after next. PlaceBack paths before after at next a.value) (with_place paths before a.value) after a.next next a.is
          (record { is = refl; below = ltb-true a.value (length paths) parts.0; seen = leb-true a.value before.used parts.1; took = a.took }),
    )

-- places that were read, one after the other
pub record PlacesBack (paths : List Raw) (before : SamplesRead) (n : ℕ) (after : SamplesRead) (at next : At) (places : List ℕ) : Type 0 where
  pub samples : after.samples ≡ before.samples ++ samples_at paths places
  pub used : after.used ≡ used_after before.used places
  pub many : length places ≡ n
  pub seen : AreFirstSeen before.used places
  pub below : All (λ place. place < length paths) places
  pub took : Took at next (flat_map word places)

each_back : (paths : List Raw) (n i : ℕ) (before after : SamplesRead) (at next : At) → IsBytes at.whole → times (λ i. sample_from paths) n i before at ≡ Ok (after, next)
    → (places : List ℕ) × PlacesBack paths before n after at next places
unfolding times
each_back paths zero i before after at next bytes is = (
  [],
  given (λ after next. PlacesBack paths before 0 after at next []) before after at next is
      (record { samples = sym (append-nil before.samples); used = refl; many = refl; seen = tt; below = All-nil (λ place. place < length paths); took = took_none at }),
)
each_back paths (suc n) i before after at next bytes is =
    let one = bind_ok (sample_from paths before at) _ _ is in
    let mid : SamplesRead × At = one.0 in
    let first = place_back paths before mid.0 at mid.1 bytes one.1 in
    let place : ℕ = first.0 in
    let with_it : SamplesRead = with_place paths before place in
    let more = each_back paths n (i + 1) with_it after mid.1 next (bytes_on first.1.took bytes) (subst (λ (s : SamplesRead). times (λ i. sample_from paths) n (i + 1) s mid.1 ≡ Ok (after, next)) first.1.is one.2) in
    let places : List ℕ = more.0 in
    let long = more.1.many in (
      place ∷ places,
      record {
        samples = more.1.samples ∙ append_assoc before.samples (path_at paths place ∷ []) (samples_at paths places);
        used = more.1.used;
        many = omega (arith, long);
        seen = (first.1.seen, more.1.seen);
        below = All-cons (λ place. place < length paths) place places first.1.below more.1.below;
        took = took_both first.1.took more.1.took;
      },
    )

-- the places of samples that were read are those that are written
places_again : (paths : List Raw) (places : List ℕ) → IsDistinct same_raw paths → All (λ place. place < length paths) places → map (place_among paths) (samples_at paths places) ≡ places
places_again paths [] distinct below = refl
places_again paths (place ∷ places) distinct below =
    let here = place_at paths place distinct (All-head (λ place. place < length paths) place places below) in
    let rest = places_again paths places distinct (All-tail (λ place. place < length paths) place places below) in
    (λ i. here i ∷ rest i)

-- what holds of each path holds of each sample
pub each_sample : (P : Raw → Type 0) (paths : List Raw) (places : List ℕ) → All P paths → All (λ place. place < length paths) places → All P (samples_at paths places)
each_sample P paths places all below =
    All-map P (path_at paths) places (All-weaker (λ place. place < length paths) (λ place. P (path_at paths place)) (λ place less. All-get_or P paths place _ less all) places below)

-- the samples of a hart with distinct paths
pub record SamplesBack (is_count : ℕ → Bool) (paths : List Raw) (at next : At) (samples : List Raw) : Type 0 where
  pub count : is_count (length samples) ≡ true
  pub distinct : paths ≡ distinct_paths samples
  pub each : All IsSpelled paths → All IsSpelled samples
  pub took : Took at next (places_bytes paths samples)

pub samples_back : (is_count : ℕ → Bool) (paths : List Raw) (at next : At) (samples : List Raw) → IsBytes at.whole → IsDistinct same_raw paths → samples_from is_count paths at ≡ Ok (samples, next)
    → SamplesBack is_count paths at next samples
unfolding samples_from
samples_back is_count paths at next samples bytes distinct is =
    let a = ruled_behind is_count at _ _ bytes is in
    let f = bind_ok (times (λ i. sample_from paths) a.value 0 (record { samples = []; used = 0 }) a.next) _ _ a.is in
    let read : SamplesRead = f.0.0 in
    let end : At = f.0.1 in
    let g = pass_ok (read.used == length paths) (starting_at end) (Ok (read.samples, end)) (samples, next) f.2 in
    let back = each_back paths a.value 0 (record { samples = []; used = 0 }) read a.next end a.bytes f.1 in
    let places : List ℕ = back.0 in
    let found : List Raw = samples_at paths places in
    let found_long = length-map places (path_at paths) in
    let many = back.1.many in
    let long : a.value ≡ length found = omega (arith, found_long, many) in
    let all : used_after 0 places ≡ length paths = sym back.1.used ∙ eqb-true read.used (length paths) g.0 in
    let firsts : distinct_paths found ≡ take (used_after 0 places) paths = distinct_at paths places 0 [] distinct back.1.seen back.1.below refl in
    let is_distinct : paths ≡ distinct_paths found = sym (firsts ∙ ap (λ (n : ℕ). take n paths) all ∙ take-length paths) in
    let spelled : flat_map word places ≡ flat_map (λ raw. word (place_among paths raw)) found = sym (words_of (place_among paths) found ∙ ap (flat_map word) (places_again paths places distinct back.1.below)) in
    let count_took : Took at a.next (word (length found)) = subst (λ (n : ℕ). Took at a.next (word n)) long a.took in
    let places_took : Took a.next end (flat_map (λ raw. word (place_among paths raw)) found) = subst (λ (l : List ℕ). Took a.next end l) spelled back.1.took in
    let made : SamplesBack is_count paths at end found = record {
      count = subst (λ (n : ℕ). is_count n ≡ true) long a.passes;
      distinct = is_distinct;
      each = λ all. each_sample IsSpelled paths places all back.1.below;
      took = took_both count_took places_took;
    } in
    given (λ samples next. SamplesBack is_count paths at next samples) read.samples samples end next g.1 (subst (λ (l : List Raw). SamplesBack is_count paths at end l) (sym back.1.samples) made)
