-- What was written is read as the same: the samples of a hart, by the places of their paths.
use Rattle.std.proofs.Common.{◌≡◌, inl, inr, ℕ, suc, ◌+◌, ◌^◌, ◌<◌, ◌≤◌, Bool, true, false, cond, not, ◌||◌, List, [], ◌∷◌, ◌++◌, length, map, All, Ok, refl, sym, ap, subst, ◌∙◌, append_assoc, append-nil, arith}
use Rattle.std.specs.List.{flat_map}
use Rattle.std.proofs.lemmas.Bool.{and_from, eq-eqb, le-leb, lt-ltb}
use Rattle.std.proofs.lemmas.Bool.Decides.{eqb_tells}
use Rattle.std.proofs.lemmas.List.{length-append, length-map}
use Rattle.std.proofs.lemmas.List.Elements.{All-cons, All-head, All-nil, All-tail}
use Rattle.std.proofs.lemmas.List.Folds.{list_any-append}
use Rattle.prof_bytes.specs.Number.{word}
use Rattle.prof_bytes.specs.Reading.{At, left_of}
use Rattle.prof_bytes.specs.Repeated.{times}
use Rattle.prof_bytes.proofs.Written.{Comes}
use Rattle.scope_types.specs.Raw.{Raw, same_raw}
use Rattle.scope_types.specs.private.SameRaw.{raw_decides, raw_equiv}
use Rattle.trace_lines.specs.Traces.{distinct_paths, has_raw}
use Rattle.trace_lines.specs.Reading.{SamplesRead, is_place, path_at, sample_from, samples_from, used_with, with_place}
use Rattle.trace_lines.specs.Spelling.{place_among, places_bytes}
use Rattle.trace_lines.specs.private.Paths.{AreFirstSeen, samples_at, used_after}
use Rattle.trace_lines.proofs.Distinct.{among_distinct, known_distinct, new_distinct}
use Rattle.trace_lines.proofs.Forth.{ruled_forth}

-- ---- the place of a path

abbrev place_in : Bool → ℕ → ℕ
place_in same rest = cond (not same) (1 + rest) 0

one_more : (n : ℕ) → 1 + n ≡ suc n
one_more n = omega arith

place_front : (raw : Raw) (front more : List Raw) → has_raw raw front ≡ true → place_among (front ++ more) raw ≡ place_among front raw
place_front raw [] more there = absurd cc
place_front raw (p ∷ front) more there =
    elim (same_raw raw p) as (λ b. (b || has_raw raw front) ≡ true → place_in b (place_among (front ++ more) raw) ≡ place_in b (place_among front raw)) [
      | true ↦ λ e. refl
      | false ↦ λ e. ap (λ (n : ℕ). 1 + n) (place_front raw front more e)
    ] there

place_below : (raw : Raw) (paths : List Raw) → has_raw raw paths ≡ true → place_among paths raw < length paths
place_below raw [] there = absurd cc
place_below raw (p ∷ paths) there =
    elim (same_raw raw p) as (λ b. (b || has_raw raw paths) ≡ true → place_in b (place_among paths raw) < length (p ∷ paths)) [
      | true ↦ λ e. omega arith
      | false ↦ λ e. let rest = place_below raw paths e in omega (arith, rest)
    ] there

place_path : (raw : Raw) (paths : List Raw) → has_raw raw paths ≡ true → path_at paths (place_among paths raw) ≡ raw
place_path raw [] there = absurd cc
place_path raw (p ∷ paths) there =
    elim (same_raw raw p) as (λ b. same_raw raw p ≡ b → (b || has_raw raw paths) ≡ true → path_at (p ∷ paths) (place_in b (place_among paths raw)) ≡ raw) [
      | true ↦ λ is e. sym ((raw_decides raw p).0 is)
      | false ↦ λ is e. ap (path_at (p ∷ paths)) (one_more (place_among paths raw)) ∙ place_path raw paths e
    ] refl there

place_last : (raw : Raw) (paths : List Raw) → has_raw raw paths ≡ false → place_among (paths ++ raw ∷ []) raw ≡ length paths
place_last raw [] new = ap (λ (b : Bool). place_in b 0) (raw_equiv.refl raw)
place_last raw (p ∷ paths) new =
    elim (same_raw raw p) as (λ b. (b || has_raw raw paths) ≡ false → place_in b (place_among (paths ++ raw ∷ []) raw) ≡ length (p ∷ paths)) [
      | true ↦ λ e. absurd cc
      | false ↦ λ e. ap (λ (n : ℕ). 1 + n) (place_last raw paths e) ∙ one_more (length paths)
    ] new

-- ---- the places of samples

distinct_grows : (before rest : List Raw) → (more : List Raw) × (distinct_paths (before ++ rest) ≡ distinct_paths before ++ more)
distinct_grows before [] = ([], ap distinct_paths (append-nil before) ∙ sym (append-nil (distinct_paths before)))
distinct_grows before (r ∷ rest) =
    let later = distinct_grows (before ++ r ∷ []) rest in
    let more : List Raw = later.0 in
    let seam : distinct_paths (before ++ r ∷ rest) ≡ distinct_paths (before ++ r ∷ []) ++ more = ap distinct_paths (sym (append_assoc before (r ∷ []) rest)) ∙ later.1 in
    elim (has_raw r before) as (λ b. has_raw r before ≡ b → (more : List Raw) × (distinct_paths (before ++ r ∷ rest) ≡ distinct_paths before ++ more)) [
      | true ↦ λ e. (more, seam ∙ ap (λ (l : List Raw). l ++ more) (known_distinct before r e))
      | false ↦ λ e. (r ∷ more, seam ∙ ap (λ (l : List Raw). l ++ more) (new_distinct before r e) ∙ append_assoc (distinct_paths before) (r ∷ []) more)
    ] refl

has_last : (before : List Raw) (r : Raw) → has_raw r (distinct_paths (before ++ r ∷ [])) ≡ true
has_last before r =
    among_distinct r (before ++ r ∷ []) ∙ list_any-append (same_raw r) before (r ∷ [])
    ∙ elim (has_raw r before) as (λ b. (b || (same_raw r r || false)) ≡ true) [ true ↦ refl | false ↦ ap (λ (b : Bool). b || false) (raw_equiv.refl r) ]

used_again : (used place : ℕ) → place < used → used_with used place ≡ used
used_again used place less = elim (eqb_tells place used) as (λ _. used_with used place ≡ used) [ inl same ↦ absurd (let is = same.1 in omega (arith, is, less)) | inr apart ↦ ap (λ (b : Bool). cond b (used + 1) used) apart.0 ]

used_next : (used : ℕ) → used_with used used ≡ used + 1
used_next used = ap (λ (b : Bool). cond b (used + 1) used) (eq-eqb used used refl)

-- a sample's place is one of those before it, or the next
record NextPlace (before : List Raw) (r : Raw) (place : ℕ) : Type 0 where
  pub next : place ≤ length (distinct_paths before)
  pub used : used_with (length (distinct_paths before)) place ≡ length (distinct_paths (before ++ r ∷ []))

next_place : (before : List Raw) (r : Raw) → NextPlace before r (place_among (distinct_paths (before ++ r ∷ [])) r)
next_place before r =
    let old : List Raw = distinct_paths before in
    elim (has_raw r before) as (λ b. has_raw r before ≡ b → NextPlace before r (place_among (distinct_paths (before ++ r ∷ [])) r)) [
      | true ↦ λ e.
          let same = known_distinct before r e in
          let below = place_below r old (among_distinct r before ∙ e) in
          let at_old : NextPlace before r (place_among old r) = record { next = omega (arith, below); used = used_again (length old) (place_among old r) below ∙ ap (λ (l : List Raw). length l) (sym same) } in
          subst (λ (l : List Raw). NextPlace before r (place_among l r)) (sym same) at_old
      | false ↦ λ e.
          let grown = new_distinct before r e in
          let last : place_among (old ++ r ∷ []) r ≡ length old = place_last r old (among_distinct r before ∙ e) in
          let long = length-append old (r ∷ []) in
          let many = ap (λ (l : List Raw). length l) grown in
          let at_end : NextPlace before r (length old) = record { next = omega arith; used = used_next (length old) ∙ sym (omega (arith, long, many)) } in
          subst (λ (n : ℕ). NextPlace before r n) (sym (ap (λ (l : List Raw). place_among l r) grown ∙ last)) at_end
    ] refl

-- the places of what follows some samples
pub record ArePlaced (paths before rest : List Raw) : Type 0 where
  pub seen : AreFirstSeen (length (distinct_paths before)) (map (place_among paths) rest)
  pub all : used_after (length (distinct_paths before)) (map (place_among paths) rest) ≡ length paths
  pub below : All (λ place. place < length paths) (map (place_among paths) rest)
  pub again : samples_at paths (map (place_among paths) rest) ≡ rest

pub are_placed : (paths before rest : List Raw) → paths ≡ distinct_paths (before ++ rest) → ArePlaced paths before rest
are_placed paths before [] is = record {
  seen = tt;
  all = ap (λ (l : List Raw). length (distinct_paths l)) (sym (append-nil before)) ∙ ap (λ (l : List Raw). length l) (sym is);
  below = All-nil (λ place. place < length paths);
  again = refl;
}
are_placed paths before (r ∷ rest) is =
    let now : List Raw = before ++ r ∷ [] in
    let whole : paths ≡ distinct_paths (now ++ rest) = is ∙ ap distinct_paths (sym (append_assoc before (r ∷ []) rest)) in
    let more = are_placed paths now rest whole in
    let grows = distinct_grows now rest in
    let there = has_last before r in
    let front : place_among paths r ≡ place_among (distinct_paths now) r = ap (λ (l : List Raw). place_among l r) (whole ∙ grows.1) ∙ place_front r (distinct_paths now) grows.0 there in
    let one : NextPlace before r (place_among paths r) = subst (λ (n : ℕ). NextPlace before r n) (sym front) (next_place before r) in
    let in_paths : has_raw r paths ≡ true =
    ap (has_raw r) (whole ∙ grows.1) ∙ list_any-append (same_raw r) (distinct_paths now) grows.0 ∙ ap (λ (b : Bool). b || has_raw r grows.0) there in
    record {
      seen = (one.next, subst (λ (n : ℕ). AreFirstSeen n (map (place_among paths) rest)) (sym one.used) more.seen);
      all = ap (λ (n : ℕ). used_after n (map (place_among paths) rest)) one.used ∙ more.all;
      below = All-cons (λ place. place < length paths) (place_among paths r) (map (place_among paths) rest) (place_below r paths in_paths) more.below;
      again = (λ i. place_path r paths in_paths i ∷ more.again i);
    }

-- ---- reading places

sample_forth : (paths : List Raw) (before : SamplesRead) (place : ℕ) (at : At) (text : List ℕ) → length paths < 2 ^ 32 → place < length paths → place ≤ before.used → left_of at ≡ word place ++ text
    → Comes (sample_from paths before at) (with_place paths before place) text
unfolding sample_from
sample_forth paths before place at text few below next left =
    let passes : is_place (length paths) before.used place ≡ true = and_from _ _ (lt-ltb place (length paths) below) (le-leb place before.used next) in
    let a = ruled_forth (is_place (length paths) before.used) at place text passes (omega (arith, few, below)) left in
    (a.0, rw a.1 refl, a.2)

places_forth : (paths : List Raw) (places : List ℕ) (i : ℕ) (before : SamplesRead) (at : At) (text : List ℕ) → length paths < 2 ^ 32 → AreFirstSeen before.used places → All (λ place. place < length paths) places
    → left_of at ≡ flat_map word places ++ text
    → Comes (times (λ i. sample_from paths) (length places) i before at) (record { samples = before.samples ++ samples_at paths places; used = used_after before.used places }) text
unfolding times
places_forth paths [] i before at text few seen below left = (at, ap (λ (l : List Raw). Ok (record { samples = l; used = before.used }, at)) (sym (append-nil before.samples)), left)
places_forth paths (place ∷ places) i before at text few seen below left =
    let raw : Raw = path_at paths place in
    let first = sample_forth paths before place at (flat_map word places ++ text) few (All-head (λ place. place < length paths) place places below) seen.0 left in
    let after : SamplesRead = with_place paths before place in
    let more = places_forth paths places (i + 1) after first.0 text few seen.1 (All-tail (λ place. place < length paths) place places below) first.2 in
    let used : ℕ = used_after (used_with before.used place) places in (
      more.0,
      rw first.1 (more.1 ∙ ap (λ (l : List Raw). Ok (record { samples = l; used = used }, more.0)) (append_assoc before.samples (raw ∷ []) (samples_at paths places))),
      more.2,
    )

pub words_of : (f : Raw → ℕ) (raws : List Raw) → flat_map (λ raw. word (f raw)) raws ≡ flat_map word (map f raws)
words_of f [] = refl
words_of f (r ∷ raws) = ap (λ (l : List ℕ). word (f r) ++ l) (words_of f raws)

pub samples_forth : (is_count : ℕ → Bool) (samples : List Raw) (at : At) (text : List ℕ) → is_count (length samples) ≡ true → length samples < 2 ^ 32 → length (distinct_paths samples) < 2 ^ 32
    → left_of at ≡ places_bytes (distinct_paths samples) samples ++ text → Comes (samples_from is_count (distinct_paths samples) at) samples text
unfolding samples_from
samples_forth is_count samples at text passes few few_paths left =
    let paths : List Raw = distinct_paths samples in
    let places : List ℕ = map (place_among paths) samples in
    let placed : ArePlaced paths [] samples = are_placed paths [] samples refl in
    let a = ruled_forth is_count at (length samples) (flat_map (λ raw. word (place_among paths raw)) samples ++ text) passes few left in
    let read = places_forth paths places 0 (record { samples = []; used = 0 }) a.0 text few_paths placed.seen placed.below (a.2 ∙ ap (λ (l : List ℕ). l ++ text) (words_of (place_among paths) samples)) in
    let many : length places ≡ length samples = length-map samples (place_among paths) in
    let read_is : times (λ i. sample_from paths) (length samples) 0 (record { samples = []; used = 0 }) a.0 ≡ Ok (record { samples = samples; used = length paths }, read.0) =
    ap (λ (n : ℕ). times (λ i. sample_from paths) n 0 (record { samples = []; used = 0 }) a.0) (sym many) ∙ read.1
    ∙ (λ i. Ok (record { samples = placed.again i; used = placed.all i }, read.0)) in
    (read.0, rw (a.1, read_is, eq-eqb (length paths) (length paths) refl) refl, read.2)
