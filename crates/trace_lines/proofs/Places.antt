-- The places of samples' paths among distinct ones.
use Rattle.std.proofs.Common.{◌≡◌, inl, inr, ℕ, zero, suc, ◌+◌, ◌<◌, ◌≤◌, ◌==◌, Bool, true, false, cond, not, ◌||◌, List, [], ◌∷◌, ◌++◌, length, take, All, Ok, Err, refl, sym, ap, subst, ◌∙◌, arith, append_assoc, append-nil}
use Rattle.std.specs.List.{AllByRecursion, IsDistinct, position_or_len}
use Rattle.std.proofs.lemmas.Bool.Decides.{eqb_tells}
use Rattle.std.proofs.Math.Seq.{take-length}
use Rattle.std.proofs.lemmas.List.{length-append, map-append, take_more}
use Rattle.std.proofs.lemmas.List.Elements.{All-append, All-cons, All-head, All-nil, All-tail}
use Rattle.scope_types.specs.Raw.{Raw, same_raw}
use Rattle.scope_types.specs.private.SameRaw.{raw_equiv}
use Rattle.trace_lines.specs.Traces.{distinct_paths, has_raw}
use Rattle.prof_bytes.specs.Reading.{At}
use Rattle.scope_types.specs.Limits.{most_samples}
use Rattle.trace_lines.specs.declared.fault.TraceFault.{TraceFault}
use Rattle.trace_lines.specs.Fields.{word_by}
use Rattle.trace_lines.specs.Reading.{SamplesRead, is_place, path_at, sample_from, used_with}
use Rattle.trace_lines.specs.Spelling.{place_among}
use Rattle.trace_lines.specs.private.Paths.{AreFirstSeen, ArePathsOf, AreUsed, samples_at, samples_read, used_after}
use Rattle.trace_lines.proofs.Distinct.{known_distinct, new_distinct, among_distinct}

-- ---- distinct paths

-- the path at a place is among those up to there
pub has_at : (paths : List Raw) (i n : ℕ) → i < n → i < length paths → has_raw (path_at paths i) (take n paths) ≡ true
has_at [] i n less within = absurd (omega (arith, within))
has_at (p ∷ paths) i zero less within = absurd (omega (arith, less))
has_at (p ∷ paths) zero (suc n) less within = ap (λ (b : Bool). b || has_raw p (take n paths)) (raw_equiv.refl p)
has_at (p ∷ paths) (suc i) (suc n) less within =
    elim (same_raw (path_at paths i) p) as (λ b. (b || has_raw (path_at paths i) (take n paths)) ≡ true) [
      | true ↦ refl
      | false ↦ has_at paths i n (omega (arith, less)) (omega (arith, within))
    ]

apart_at : (p : Raw) (paths : List Raw) (i : ℕ) → AllByRecursion (λ y. same_raw p y ≡ false) paths → i < length paths → same_raw p (path_at paths i) ≡ false
apart_at p [] i others within = absurd (omega (arith, within))
apart_at p (q ∷ paths) zero others within = others.0
apart_at p (q ∷ paths) (suc i) others within = apart_at p paths i others.1 (omega (arith, within))

-- and not among those before
pub fresh_at : (paths : List Raw) (i : ℕ) → IsDistinct same_raw paths → i < length paths → has_raw (path_at paths i) (take i paths) ≡ false
unfolding IsDistinct
fresh_at [] i distinct within = absurd (omega (arith, within))
fresh_at (p ∷ paths) zero distinct within = refl
fresh_at (p ∷ paths) (suc i) distinct within =
    let apart : same_raw (path_at paths i) p ≡ false = raw_equiv.symm (path_at paths i) p ∙ apart_at p paths i distinct.0 (omega (arith, within)) in
    ap (λ (b : Bool). b || has_raw (path_at paths i) (take i paths)) apart ∙ fresh_at paths i distinct.1 (omega (arith, within))

-- so its place is where it is
pub place_at : (paths : List Raw) (i : ℕ) → IsDistinct same_raw paths → i < length paths → place_among paths (path_at paths i) ≡ i
unfolding IsDistinct
place_at [] i distinct within = absurd (omega (arith, within))
place_at (p ∷ paths) zero distinct within = ap (λ (b : Bool). cond (not b) (1 + position_or_len (same_raw p) paths) 0) (raw_equiv.refl p)
place_at (p ∷ paths) (suc i) distinct within =
    let q : Raw = path_at paths i in
    let apart : same_raw q p ≡ false = raw_equiv.symm q p ∙ apart_at p paths i distinct.0 (omega (arith, within)) in
    let rest = place_at paths i distinct.1 (omega (arith, within)) in
    ap (λ (b : Bool). cond (not b) (1 + position_or_len (same_raw q) paths) 0) apart ∙ omega (arith, rest)

-- ---- the distinct paths of places

abbrev next_used : List Raw → ℕ → ℕ → List Raw → Type 0
next_used paths used place before = distinct_paths (before ++ path_at paths place ∷ []) ≡ take (used_with used place) paths

one_more : (paths : List Raw) (used place : ℕ) (before : List Raw) → IsDistinct same_raw paths → place ≤ used → place < length paths → distinct_paths before ≡ take used paths → next_used paths used place before
one_more paths used place before distinct next below is =
    let raw : Raw = path_at paths place in
    elim (eqb_tells place used) as (λ _. next_used paths used place before) [
      | inl same ↦
          let within : used < length paths = subst (λ (n : ℕ). n < length paths) same.1 below in
          let absent : has_raw raw before ≡ false = sym (among_distinct raw before) ∙ ap (has_raw raw) is ∙ ap (λ (n : ℕ). has_raw (path_at paths n) (take used paths)) same.1 ∙ fresh_at paths used distinct within in
          new_distinct before raw absent ∙ ap (λ (l : List Raw). l ++ raw ∷ []) is ∙ ap (λ (n : ℕ). take used paths ++ path_at paths n ∷ []) same.1
          ∙ sym (take_more paths used _ within) ∙ sym (ap (λ (b : Bool). take (cond b (used + 1) used) paths) same.0)
      | inr apart ↦
          let less : place < used = omega (arith, next, apart) in
          let there : has_raw raw before ≡ true = sym (among_distinct raw before) ∙ ap (has_raw raw) is ∙ has_at paths place used less below in
          known_distinct before raw there ∙ is ∙ sym (ap (λ (b : Bool). take (cond b (used + 1) used) paths) apart.0)
    ]

-- after all places, the distinct paths are those that were used
pub distinct_at : (paths : List Raw) (places : List ℕ) (used : ℕ) (before : List Raw) → IsDistinct same_raw paths → AreFirstSeen used places → All (λ place. place < length paths) places
    → distinct_paths before ≡ take used paths → distinct_paths (before ++ samples_at paths places) ≡ take (used_after used places) paths
distinct_at paths [] used before distinct seen below is = ap distinct_paths (append-nil before) ∙ is
distinct_at paths (place ∷ places) used before distinct seen below is =
    let raw : Raw = path_at paths place in
    ap distinct_paths (sym (append_assoc before (raw ∷ []) (samples_at paths places)))
    ∙ distinct_at paths places (used_with used place) (before ++ raw ∷ []) distinct seen.1 (All-tail (λ p. p < length paths) place places below)
    (one_more paths used place before distinct seen.0 (All-head (λ p. p < length paths) place places below) is)

-- ---- one place more

used_more : (used place : ℕ) (places : List ℕ) → used_after used (places ++ place ∷ []) ≡ used_with (used_after used places) place
used_more used place [] = refl
used_more used place (p ∷ places) = used_more (used_with used p) place places

seen_more : (used place : ℕ) (places : List ℕ) → AreFirstSeen used places → place ≤ used_after used places → AreFirstSeen used (places ++ place ∷ [])
seen_more used place [] seen next = (next, tt)
seen_more used place (p ∷ places) seen next = (seen.0, seen_more (used_with used p) place places seen.1 next)

within_with : (n used place : ℕ) → place < n → used ≤ n → used_with used place ≤ n
within_with n used place below within =
    elim (eqb_tells place used) as (λ _. used_with used place ≤ n) [
      | inl same ↦ subst (λ (b : Bool). cond b (used + 1) used ≤ n) (sym same.0) (let is = same.1 in omega (arith, is, below))
      | inr apart ↦ subst (λ (b : Bool). cond b (used + 1) used ≤ n) (sym apart.0) within
    ]

one_at_most : (used place : ℕ) → used_with used place ≤ used + 1
one_at_most used place = elim (place == used) as (λ b. cond b (used + 1) used ≤ used + 1) [ true ↦ omega arith | false ↦ omega arith ]

pub used_one : (n : ℕ) (places new : List ℕ) (used place after : ℕ) → AreUsed n places used → place < n → place ≤ used → after ≡ used_with used place → new ≡ places ++ place ∷ [] → AreUsed n new after
used_one n places new used place after are below next is grown =
    let P : ℕ → Type 0 = λ p. p < n in
    let more = length-append places (place ∷ []) in
    let few = are.few in
    let one = one_at_most used place in
    let within = within_with n used place below are.within in
    let now : AreUsed n (places ++ place ∷ []) after = record {
      first = is ∙ ap (λ (u : ℕ). used_with u place) are.first ∙ sym (used_more 0 place places);
      next = seen_more 0 place places are.next (subst (λ (u : ℕ). place ≤ u) are.first next);
      below = All-append P places (place ∷ []) are.below (All-cons P place [] below (All-nil P));
      within = omega (arith, within, is);
      few = omega (arith, more, few, one, is);
    } in
    subst (λ (l : List ℕ). AreUsed n l after) (sym grown) now

pub none_used : (n : ℕ) → AreUsed n [] 0
none_used n = record { first = refl; next = tt; below = All-nil (λ p. p < n); within = omega arith; few = omega arith }

-- ---- reading places

pub sample_fails : (paths : List Raw) (before : SamplesRead) (at : At) (count : ℕ) (fault : TraceFault) → count ≡ length paths → word_by (is_place count before.used) at ≡ Err fault → sample_from paths before at ≡ Err fault
unfolding sample_from
sample_fails paths before at count fault many read =
    let failed : word_by (is_place (length paths) before.used) at ≡ Err fault = subst (λ (n : ℕ). word_by (is_place n before.used) at ≡ Err fault) many read in
    rw failed refl

pub sample_more : (paths : List Raw) (places new : List ℕ) (used place after count : ℕ) (at next : At) → count ≡ length paths → word_by (is_place count used) at ≡ Ok (place, next) → after ≡ used_with used place
    → new ≡ places ++ place ∷ [] → sample_from paths (samples_read paths places used) at ≡ Ok (samples_read paths new after, next)
unfolding sample_from
sample_more paths places new used place after count at next many read after_is new_is =
    let found : word_by (is_place (length paths) used) at ≡ Ok (place, next) = subst (λ (n : ℕ). word_by (is_place n used) at ≡ Ok (place, next)) many read in
    let grown : samples_at paths new ≡ samples_at paths places ++ path_at paths place ∷ [] = ap (samples_at paths) new_is ∙ map-append (path_at paths) places (place ∷ []) in
    rw found (λ i. Ok (record { samples = sym grown i; used = sym after_is i }, next))

-- where all paths are used, they are those of the samples
pub used_all : (paths : List Raw) (places : List ℕ) (used : ℕ) → IsDistinct same_raw paths → AreUsed (length paths) places used → length paths ≤ used → length places ≤ most_samples → ArePathsOf paths places
used_all paths places used distinct are all few =
    let within = are.within in
    let first = are.first in
    let whole : used_after 0 places ≡ length paths = omega (arith, within, all, first) in
    record {
      distinct = sym (distinct_at paths places 0 [] distinct are.next are.below refl ∙ ap (λ (n : ℕ). take n paths) whole ∙ take-length paths);
      below = are.below;
      few = few;
    }
