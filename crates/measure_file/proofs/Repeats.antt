-- The paths of a column that are read before repeats are sought.
use Rattle.std.proofs.Common.{◌≡◌, inl, inr, ℕ, zero, suc, ◌+◌, ◌-◌, ◌<◌, ◌≤◌, Bool, true, false, cond, List, [], ◌∷◌, ◌++◌, length, get_or, take, Ok, Err, refl, sym, ap, subst, ◌∙◌, arith}
use Rattle.std.specs.Prelude.{slice_get, Option, Some}
use Rattle.std.proofs.lemmas.Bool.{cases_lt}
use Rattle.std.proofs.lemmas.List.{take-append-le, length-append}
use Rattle.std.proofs.lemmas.Option.{slice_get_past}
use Rattle.std.proofs.Math.ListN.{get_or-append}
use Rattle.std.proofs.Math.Seq.{get_or-append_seam, take-append_seam}
use Rattle.prof_bytes.specs.Outcome.{◌>>=◌}
use Rattle.prof_bytes.specs.Reading.{At}
use Rattle.prof_bytes.specs.Repeated.{times}
use Rattle.prof_bytes.specs.declared.fail.Fail.{Fail}
use Rattle.prof_bytes.specs.declared.fail.Fail.TheVariants as fails
use Rattle.prof_bytes.proofs.Repeated.{ends, fails_at, goes_on}
use Rattle.scope_types.specs.declared.frame.Counted.{Counted}
use Rattle.scope_types.specs.Limits.{most_frames_in_all, most_samples}
use Rattle.thread_cct.specs.Adding.{has_path}
use Rattle.thread_cct.specs.Listing.{HasNoRepeat, IsFirstRepeat, frames_of_all, is_among, is_repeat, samples_of}
use Rattle.measure_file.specs.declared.fault.MeasureFault.{MeasureFault}
use Rattle.measure_file.specs.Fields.{MeasureRead, fault_at}
use Rattle.measure_file.specs.private.Columns.{AreSumsWith, ReadsColumn, ReadsPath, RepeatsAreFaults, column_path_from, path_fields_from, with_new}

-- ---- one path more

get_before : (paths more : List Counted) (k : ℕ) → k < length paths → slice_get (paths ++ more) k ≡ slice_get paths k
get_before [] more k lt = absurd (omega (arith, lt))
get_before (p ∷ paths) more zero lt = refl
get_before (p ∷ paths) more (suc k) lt = get_before paths more k (omega (arith, lt))

get_last : (paths : List Counted) (c : Counted) → slice_get (paths ++ c ∷ []) (length paths) ≡ Some c
get_last [] c = refl
get_last (p ∷ paths) c = get_last paths c

repeat_before : (paths : List Counted) (c : Counted) (k : ℕ) → k < length paths → is_repeat (paths ++ c ∷ []) k ≡ is_repeat paths k
repeat_before paths c k lt = λ i. is_among (get_before paths (c ∷ []) k lt i) (take-append-le k paths (c ∷ []) (omega (arith, lt)) i)

repeat_last : (paths : List Counted) (c : Counted) → is_repeat (paths ++ c ∷ []) (length paths) ≡ has_path c.path paths
repeat_last paths c = λ i. is_among (get_last paths c i) (take-append_seam paths (c ∷ []) i)

repeat_past : (paths : List Counted) (k : ℕ) → length paths ≤ k → is_repeat paths k ≡ false
repeat_past paths k le = ap (λ (o : Option Counted). is_among o (take k paths)) (slice_get_past paths k le)

no_repeat_before : (paths : List Counted) (c : Counted) → HasNoRepeat (paths ++ c ∷ []) → HasNoRepeat paths
no_repeat_before paths c none k = elim (cases_lt k (length paths)) [
  | inl lt ↦ sym (repeat_before paths c k lt) ∙ none k
  | inr le ↦ repeat_past paths k le
]

last_new : (paths : List Counted) (c : Counted) → HasNoRepeat (paths ++ c ∷ []) → has_path c.path paths ≡ false
last_new paths c none = sym (repeat_last paths c) ∙ none (length paths)

repeat_within : (paths : List Counted) (k : ℕ) → is_repeat paths k ≡ true → k < length paths
repeat_within paths k is = elim (cases_lt k (length paths)) [
  | inl lt ↦ lt
  | inr le ↦ (let none = repeat_past paths k le in absurd cc)
]

-- the first that repeats another was there, or is the last
first_before : (paths : List Counted) (c : Counted) (k : ℕ) → k < length paths → IsFirstRepeat (paths ++ c ∷ []) k → IsFirstRepeat paths k
first_before paths c k lt first = record {
  is = sym (repeat_before paths c k lt) ∙ first.is;
  first = λ j less. sym (repeat_before paths c j (omega (arith, less, lt))) ∙ first.first j less;
}

first_last : (paths : List Counted) (c : Counted) (k : ℕ) → length paths ≤ k → IsFirstRepeat (paths ++ c ∷ []) k → (k ≡ length paths) × HasNoRepeat paths × (has_path c.path paths ≡ true)
first_last paths c k le first =
    let within = repeat_within (paths ++ c ∷ []) k first.is in
    let long = length-append paths (c ∷ []) in
    let is : k ≡ length paths = omega (arith, within, long, le) in (
      is,
      (λ j. elim (cases_lt j (length paths)) [
        | inl lt ↦ sym (repeat_before paths c j lt) ∙ first.first j (omega (arith, lt, le))
        | inr past ↦ repeat_past paths j past
      ]),
      sym (repeat_last paths c) ∙ ap (is_repeat (paths ++ c ∷ [])) (sym is) ∙ first.is,
    )

-- ---- a loop over paths

abbrev pub Step : Type 0
Step = ℕ → List Counted → At → MeasureRead (List Counted)

-- what a loop knows after so many paths
pub record Goes (step : Step) (n i : ℕ) (paths : List Counted) (first_pcs : List ℕ) (at : At) (wanted : MeasureRead (List Counted)) : Type 0 where
  pub many : length first_pcs ≡ length paths
  pub none : HasNoRepeat paths → times step (n - i) i paths at ≡ wanted
  pub some : RepeatsAreFaults paths first_pcs wanted

pub goes_first : (step : Step) (n : ℕ) (paths : List Counted) (first_pcs : List ℕ) (at : At) → paths ≡ [] → first_pcs ≡ [] → Goes step n 0 paths first_pcs at (times step n 0 [] at)
goes_first step n paths first_pcs at is none = record {
  many = ap (λ (l : List ℕ). length l) none ∙ sym (ap (λ (l : List Counted). length l) is);
  none = λ _. (let all : n - 0 ≡ n = omega arith in ap (λ (k : ℕ). times step k 0 paths at) all ∙ ap (λ (l : List Counted). times step n 0 l at) is);
  some = λ k first. (let e : false ≡ true = ap (λ (l : List Counted). is_repeat l k) (sym is) ∙ first.is in absurd cc);
}

pub goes_more : (step : Step) (n i : ℕ) (paths new : List Counted) (first_pcs more : List ℕ) (at next : At) (wanted : MeasureRead (List Counted)) (r : Counted × ℕ) → i < n → step i paths at ≡ with_new paths (r, next) → new ≡ paths ++ r.0 ∷ [] → more ≡ first_pcs ++ r.1 ∷ []
    → Goes step n i paths first_pcs at wanted → Goes step n (i + 1) new more next wanted
goes_more step n i paths new first_pcs more at next wanted r lt read is is_more goes =
    let many = goes.many in
    let long = length-append paths (r.0 ∷ []) in
    let long_pcs = length-append first_pcs (r.1 ∷ []) in
    let one : Goes step n (i + 1) (paths ++ r.0 ∷ []) (first_pcs ++ r.1 ∷ []) next wanted = record {
      many = omega (arith, many, long, long_pcs);
      none = λ none.
          goes_on step n i paths (paths ++ r.0 ∷ []) at next wanted lt (read ∙ ap (λ (b : Bool). cond b (Err (fault_at r.1)) (Ok (paths ++ r.0 ∷ [], next))) (last_new paths r.0 none)) (goes.none (no_repeat_before paths r.0 none));
      some = λ k first.
          elim (cases_lt k (length paths)) [
            | inl less ↦ goes.some k (first_before paths r.0 k less first) ∙ ap (λ (o : ℕ). Err (fault_at o)) (sym (get_or-append first_pcs (r.1 ∷ []) 0 k (omega (arith, less, many))))
            | inr le ↦ (
                let last = first_last paths r.0 k le first in
                let fault : step i paths at ≡ Err (fault_at r.1) = read ∙ ap (λ (b : Bool). cond b (Err (fault_at r.1)) (Ok (paths ++ r.0 ∷ [], next))) last.2 in
                let place : get_or (first_pcs ++ r.1 ∷ []) k 0 ≡ r.1 = ap (λ (j : ℕ). get_or (first_pcs ++ r.1 ∷ []) j 0) (last.0 ∙ sym many) ∙ get_or-append_seam first_pcs r.1 [] 0 in
                fails_at (fault_at r.1) step n i paths at wanted lt fault (goes.none last.1) ∙ ap (λ (o : ℕ). Err (fault_at o)) (sym place))
          ];
    } in
    subst (λ (l : List Counted). Goes step n (i + 1) l more next wanted) (sym is) (subst (λ (l : List ℕ). Goes step n (i + 1) (paths ++ r.0 ∷ []) l next wanted) (sym is_more) one)

pub goes_wrong : (step : Step) (n i : ℕ) (paths new : List Counted) (first_pcs more : List ℕ) (at : At) (wanted : MeasureRead (List Counted)) (fault : MeasureFault) → i < n → step i paths at ≡ Err fault → new ≡ paths → more ≡ first_pcs
    → Goes step n i paths first_pcs at wanted → (HasNoRepeat new → wanted ≡ Err fault) × RepeatsAreFaults new more wanted × (length more ≡ length new)
goes_wrong step n i paths new first_pcs more at wanted fault lt read is is_more goes = (
  (λ none. fails_at fault step n i paths at wanted lt read (goes.none (subst HasNoRepeat is none))),
  subst (λ (l : List Counted). RepeatsAreFaults l more wanted) (sym is) (subst (λ (l : List ℕ). RepeatsAreFaults paths l wanted) (sym is_more) goes.some),
  ap (λ (l : List ℕ). length l) is_more ∙ goes.many ∙ sym (ap (λ (l : List Counted). length l) is),
)

pub goes_to_end : (step : Step) (n i : ℕ) (paths : List Counted) (first_pcs : List ℕ) (at : At) (wanted : MeasureRead (List Counted)) → n ≤ i → Goes step n i paths first_pcs at wanted
    → (HasNoRepeat paths → wanted ≡ Ok (paths, at)) × RepeatsAreFaults paths first_pcs wanted × (length first_pcs ≡ length paths)
goes_to_end step n i paths first_pcs at wanted le goes = ((λ none. ends step n i paths at wanted le (goes.none none)), goes.some, goes.many)

-- ---- a path of a column

pub path_step : (samples frames counted held : ℕ) (paths : List Counted) (at next : At) (r : Counted × ℕ) → AreSumsWith samples frames paths counted held → path_fields_from counted held at ≡ Ok (r, next) → column_path_from samples frames paths at ≡ with_new paths (r, next)
unfolding column_path_from
path_step samples frames counted held paths at next r sums read =
    let same : path_fields_from (samples + samples_of paths) (frames + frames_of_all paths) at ≡ Ok (r, next) = (λ i. path_fields_from (sym sums.samples_is i) (sym sums.frames_is i) at) ∙ read in
    rw same refl

pub path_wrong : (samples frames counted held : ℕ) (paths : List Counted) (at : At) (fault : MeasureFault) → AreSumsWith samples frames paths counted held → path_fields_from counted held at ≡ Err fault → column_path_from samples frames paths at ≡ Err fault
unfolding column_path_from
path_wrong samples frames counted held paths at fault sums read =
    let same : path_fields_from (samples + samples_of paths) (frames + frames_of_all paths) at ≡ Err fault = (λ i. path_fields_from (sym sums.samples_is i) (sym sums.frames_is i) at) ∙ read in
    rw same refl

-- ---- what is told of repeats comes first

-- ---- the loop over a column's paths

pub reads_more : (samples frames counted held n i : ℕ) (paths new : List Counted) (first_pcs more : List ℕ) (at after : At) (wanted : MeasureRead (List Counted)) (done : Unit {0}) → i < n → AreSumsWith samples frames paths counted held
    → ReadsPath paths new first_pcs more after (path_fields_from counted held at) (Ok done) → Goes (λ i. column_path_from samples frames) n i paths first_pcs at wanted → Goes (λ i. column_path_from samples frames) n (i + 1) new more after wanted
reads_more samples frames counted held n i paths new first_pcs more at after wanted done lt sums read goes =
    goes_more (λ i. column_path_from samples frames) n i paths new first_pcs more at after wanted read.0 lt (path_step samples frames counted held paths at after read.0 sums read.1) read.2 read.3 goes

pub reads_wrong : (samples frames counted held n i : ℕ) (paths new : List Counted) (first_pcs more : List ℕ) (at after : At) (wanted : MeasureRead (List Counted)) (fail : Fail MeasureFault) → i < n → AreSumsWith samples frames paths counted held
    → ReadsPath paths new first_pcs more after (path_fields_from counted held at) (Err fail) → Goes (λ i. column_path_from samples frames) n i paths first_pcs at wanted → ReadsColumn new more after wanted (Err fail)
reads_wrong samples frames counted held n i paths new first_pcs more at after wanted (fails.Memory memory) lt sums read goes = tt
reads_wrong samples frames counted held n i paths new first_pcs more at after wanted (fails.Fault fault) lt sums read goes =
    goes_wrong (λ i. column_path_from samples frames) n i paths new first_pcs more at wanted fault lt (path_wrong samples frames counted held paths at fault sums read.0) read.1 read.2 goes

-- ---- the sums

pub sums_first : (samples frames : ℕ) (paths : List Counted) → paths ≡ [] → samples ≤ most_samples → frames ≤ most_frames_in_all → AreSumsWith samples frames paths samples frames
sums_first samples frames paths is few short =
    let none : samples_of paths ≡ 0 = ap samples_of is in
    let none_long : frames_of_all paths ≡ 0 = ap frames_of_all is in
    record { samples_is = omega (arith, none); few_samples = few; frames_is = omega (arith, none_long); few_frames = short }
