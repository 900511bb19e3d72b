-- The samples that were counted so far.
use Rattle.std.proofs.Common.{◌≡◌, ℕ, zero, suc, ◌+◌, ◌-◌, ◌^◌, ◌<◌, ◌≤◌, Bool, true, false, cond, nat_lt, List, [], ◌∷◌, ◌++◌, length, map, take, sum_by, All, Option, Some, None, Result, Ok, Err, refl, sym, ap, subst, ◌∙◌, arith, append-nil, append_assoc, take_all}
use Rattle.std.specs.List.{range_with_len}
use Rattle.std.proofs.lemmas.Bool.Decides.{nat_tests}
use Rattle.std.proofs.lemmas.List.{length-append, length-map, take-append-le}
use Rattle.std.proofs.lemmas.List.Sums.{sum_by-cons}
use Rattle.std.proofs.lemmas.List.Elements.{All-head, All-tail, All-append, All-take}
use Rattle.std.proofs.lemmas.Bool.{lt-ltb, le-ltb}
use Rattle.prof_bytes.specs.declared.fail.Fail.{Fail}
use Rattle.prof_bytes.specs.declared.fail.Fail.TheVariants as fails
use Rattle.prof_bytes.specs.Outcome.{◌>>=◌, FailsBy}
use Rattle.rv_run.specs.Run.{Run}
use Rattle.rv_run.specs.Progress.{to_come}
use Rattle.sample_clock.specs.declared.clock.Sample.{Sample}
use Rattle.sample_clock.specs.Samples.{Paths}
use Rattle.sample_clock.specs.Clock.{Sampling, IsOver, samples_to_come}
use Rattle.scope_types.specs.declared.event.EventPeriod.{EventPeriod}
use Rattle.scope_types.specs.declared.frame.Counted.{Counted}
use Rattle.scope_types.specs.Distinct.{ColumnRaw, distinct, frames_in, samples_in}
use Rattle.scope_types.specs.Limits.{most_samples, most_frames_in_all}
use Rattle.thread_cct.specs.declared.ccts.TooManyFrames.{TooManyFrames}
use Rattle.thread_cct.specs.Adding.{few_frames, too_many}
use Rattle.command_line.specs.declared.status.InputFault.{InputFault}
use Rattle.command_line.specs.declared.status.InputFault.TheVariants.{TooManySamples, TooManyFrames as TooMany}
use Rattle.program_run.specs.Samples.{column_raw, within_frames, within_samples, few_samples}
use Rattle.program_run.specs.Collecting.{AllCounted, Exceeds, GivesNext, GivesOne, Stops, raws_to_come}

-- ---- the limits

-- a test of two
abbrev pub tested : {X F : Type 0} → Bool → F → X → Result X F
tested many fault x = cond many (Err fault) (Ok x)

pub tested_ok : {X F : Type 0} (many : Bool) (fault : F) (x y : X) → tested many fault x ≡ Ok y → (many ≡ false) × (x ≡ y)
tested_ok true fault x y e = absurd cc
tested_ok false fault x y e = (refl, (let same : x ≡ y = cc in same))

tested_err : {X F : Type 0} (many : Bool) (fault other : F) (x : X) → tested many fault x ≡ Err other → (many ≡ true) × (fault ≡ other)
tested_err true fault other x e = (refl, (let same : fault ≡ other = cc in same))
tested_err false fault other x e = absurd cc

pub at_most : (a b : ℕ) → nat_lt a b ≡ false → b ≤ a
at_most a b e = grind (arith, nat_tests)

is_above : (a b : ℕ) → nat_lt a b ≡ true → a < b
is_above a b e = grind (arith, nat_tests)

-- the same limit under the top call's fault
pub frames_ok : (tables after : List (List Counted)) → few_frames tables ≡ Ok after → within_frames tables ≡ Ok after
frames_ok tables after e =
    let is = tested_ok (nat_lt most_frames_in_all (frames_in tables)) too_many tables after e in
    ap (λ (b : Bool). tested b TooMany tables) is.0 ∙ ap Ok is.1

pub frames_err : (tables : List (List Counted)) (fault : TooManyFrames) → few_frames tables ≡ Err fault → within_frames tables ≡ Err TooMany
frames_err tables fault e =
    let is = tested_err (nat_lt most_frames_in_all (frames_in tables)) too_many fault tables e in
    ap (λ (b : Bool). tested b TooMany tables) is.0

pub frames_refused : (tables : List (List Counted)) (fail : Fail TooManyFrames) (fault : TooManyFrames) → fail ≡ fails.Fault fault → FailsBy fail (few_frames tables) → within_frames tables ≡ Err TooMany
frames_refused tables fail fault is refused = frames_err tables fault (subst (λ (f : Fail TooManyFrames). FailsBy f (few_frames tables)) is refused)

-- ---- so far

pub record SoFar (path_of : Paths) (columns events : ℕ) (start now : Sampling) (ccts : List (List Counted)) : Type 0 where
  pub done : List ColumnRaw
  pub parts : raws_to_come path_of start ≡ done ++ raws_to_come path_of now
  pub same : length now.events ≡ events
  pub met : now.met ≡ length done
  pub few : length done ≤ most_samples
  pub at_end : (to_come now.machine).final ≡ (to_come start.machine).final
  pub done_own : All (λ s. s.column < columns) done
  pub left_own : All (λ s. s.column < columns) (raws_to_come path_of now)
  pub counts : ccts ≡ distinct columns done
  pub count : samples_in ccts ≡ length done
  pub fits : frames_in ccts ≤ most_frames_in_all

no_frames : (columns : List ℕ) → sum_by (sum_by (λ (c : Counted). length c.path.frames)) (map (λ (column : ℕ). []) columns) ≡ 0
no_frames [] = refl
no_frames (column ∷ columns) =
    let first = sum_by-cons (sum_by (λ (c : Counted). length c.path.frames)) [] (map (λ (column : ℕ). []) columns) in
    let rest = no_frames columns in
    omega (arith, first, rest)

pub none_counted : (columns : ℕ) → frames_in (distinct columns []) ≡ 0
unfolding distinct
none_counted columns = no_frames (range_with_len 0 columns)

unfoldable pub so_far_first : (path_of : Paths) (columns events : ℕ) (start : Sampling) (ccts : List (List Counted)) → start.met ≡ 0 → length start.events ≡ events → All (λ s. s.column < columns) (raws_to_come path_of start) → ccts ≡ distinct columns [] → samples_in ccts ≡ 0
    → SoFar path_of columns events start start ccts
so_far_first path_of columns events start ccts none same all are count =
    record {
      done = [];
      parts = refl;
      same = same;
      met = none;
      few = omega arith;
      at_end = refl;
      done_own = λ k d lt. absurd (omega arith);
      left_own = all;
      counts = are;
      count = count;
      fits = (let zero_is = ap frames_in are ∙ none_counted columns in omega (arith, zero_is));
    }

-- the next sample's
next_raws : (path_of : Paths) (sample : Sample) (events : ℕ) (old new : Sampling) → length old.events ≡ events → GivesOne path_of sample old new → raws_to_come path_of old ≡ column_raw events sample ∷ raws_to_come path_of new
next_raws path_of sample events old new same gives =
    ap (map (column_raw (length old.events))) gives.given.to_come
    ∙ ap (λ (n : ℕ). column_raw n sample ∷ map (column_raw (length old.events)) (samples_to_come path_of new)) same
    ∙ ap (λ (es : List EventPeriod). column_raw events sample ∷ map (column_raw (length es)) (samples_to_come path_of new)) (sym gives.events)

module _ (path_of : Paths) (columns events : ℕ) (start old new : Sampling) (ccts : List (List Counted)) (sofar : SoFar path_of columns events start old ccts) where
  pub left : (sample : Sample) → GivesOne path_of sample old new → All (λ s. s.column < columns) (column_raw events sample ∷ raws_to_come path_of new)
  left sample given = subst (All (λ (s : ColumnRaw). s.column < columns)) (next_raws path_of sample events old new sofar.same given) sofar.left_own

  pub so_far_column : (sample : Sample) → GivesOne path_of sample old new → length (distinct columns sofar.done) ≡ columns → (column_raw events sample).column < length ccts
  so_far_column sample given many =
      let lt : (column_raw events sample).column < columns = All-head (λ (s : ColumnRaw). s.column < columns) (column_raw events sample) (raws_to_come path_of new) (left sample given) in
      let long : length ccts ≡ columns = ap (λ (ts : List (List Counted)). length ts) sofar.counts ∙ many in
      omega (arith, lt, long)

  pub so_far_columns : length (distinct columns sofar.done) ≡ columns → columns < 2 ^ 32 → length ccts < 2 ^ 32
  so_far_columns many few =
      let long : length ccts ≡ columns = ap (λ (ts : List (List Counted)). length ts) sofar.counts ∙ many in
      omega (arith, long, few)

  pub so_far_room : (sample : Sample) → GivesOne path_of sample old new → samples_in ccts < most_samples
  so_far_room sample given =
      let count = sofar.count in
      let met = sofar.met in
      let one = given.given.met in
      let few = given.given.few in
      omega (arith, count, met, one, few)

  -- those that were counted, with this sample
  module _ (sample : Sample) (given : GivesOne path_of sample old new) (many : length (distinct columns sofar.done) ≡ columns) where
    pub all_parts : raws_to_come path_of start ≡ (sofar.done ++ column_raw events sample ∷ []) ++ raws_to_come path_of new
    all_parts = sofar.parts ∙ ap (λ (l : List ColumnRaw). sofar.done ++ l) (next_raws path_of sample events old new sofar.same given) ∙ sym (append_assoc sofar.done (column_raw events sample ∷ []) (raws_to_come path_of new))

    pub now_long : new.met ≡ length (sofar.done ++ column_raw events sample ∷ [])
    now_long = (let long = length-append sofar.done (column_raw events sample ∷ []) in let met = sofar.met in let one = given.given.met in omega (arith, long, met, one))

    pub now_few : length (sofar.done ++ column_raw events sample ∷ []) ≤ most_samples
    now_few = (let long = now_long in let few = given.given.few in omega (arith, long, few))

    pub long_ccts : length ccts ≡ columns
    long_ccts = ap (λ (ts : List (List Counted)). length ts) sofar.counts ∙ many

    pub so_far_counts : ccts ≡ distinct (length ccts) sofar.done
    so_far_counts = sofar.counts ∙ ap (λ (n : ℕ). distinct n sofar.done) (sym long_ccts)

    unfoldable pub so_far_more : (ccts' : List (List Counted)) → (to_come new.machine).final ≡ (to_come old.machine).final → within_frames (distinct (length ccts) (sofar.done ++ column_raw events sample ∷ [])) ≡ Ok ccts' → samples_in ccts' ≡ samples_in ccts + 1
        → SoFar path_of columns events start new ccts'
    so_far_more ccts' last within count =
        let tables : List (List Counted) = distinct columns (sofar.done ++ column_raw events sample ∷ []) in
        let fine : within_frames tables ≡ Ok ccts' = subst (λ (n : ℕ). within_frames (distinct n (sofar.done ++ column_raw events sample ∷ [])) ≡ Ok ccts') long_ccts within in
        let is = tested_ok (nat_lt most_frames_in_all (frames_in tables)) TooMany tables ccts' fine in
        record {
          done = sofar.done ++ column_raw events sample ∷ [];
          parts = all_parts;
          same = ap (λ (es : List EventPeriod). length es) given.events ∙ sofar.same;
          met = now_long;
          few = now_few;
          at_end = last ∙ sofar.at_end;
          done_own = All-append (λ (s : ColumnRaw). s.column < columns) sofar.done (column_raw events sample ∷ []) sofar.done_own (All-take (λ (s : ColumnRaw). s.column < columns) 1 (column_raw events sample ∷ raws_to_come path_of new) (left sample given));
          left_own = All-tail (λ (s : ColumnRaw). s.column < columns) (column_raw events sample) (raws_to_come path_of new) (left sample given);
          counts = sym is.1;
          count = (let was = sofar.count in let long = length-append sofar.done (column_raw events sample ∷ []) in omega (arith, was, long, count));
          fits = (let few = at_most most_frames_in_all (frames_in tables) is.0 in let same = ap frames_in is.1 in omega (arith, few, same));
        }

    -- too many frames with it
    pub so_far_frames : (fault : InputFault) → within_frames (distinct (length ccts) (sofar.done ++ column_raw events sample ∷ [])) ≡ Err fault
        → ((more : List ColumnRaw) → All (λ s. s.column < columns) more → frames_in (distinct columns (sofar.done ++ column_raw events sample ∷ [])) ≤ frames_in (distinct columns ((sofar.done ++ column_raw events sample ∷ []) ++ more)))
        → few_samples columns (raws_to_come path_of start) ≡ Err fault
    so_far_frames fault within grow =
        let front : List ColumnRaw = sofar.done ++ column_raw events sample ∷ [] in
        let rest : List ColumnRaw = raws_to_come path_of new in
        let more : List ColumnRaw = take (most_samples - length front) rest in
        let refused : within_frames (distinct columns front) ≡ Err fault = subst (λ (n : ℕ). within_frames (distinct n front) ≡ Err fault) long_ccts within in
        let is = tested_err (nat_lt most_frames_in_all (frames_in (distinct columns front))) TooMany fault (distinct columns front) refused in
        let over : most_frames_in_all < frames_in (distinct columns front) = is_above most_frames_in_all (frames_in (distinct columns front)) is.0 in
        let grows : frames_in (distinct columns front) ≤ frames_in (distinct columns (front ++ more)) = grow more (All-take (λ (s : ColumnRaw). s.column < columns) (most_samples - length front) rest (All-tail (λ (s : ColumnRaw). s.column < columns) (column_raw events sample) rest (left sample given))) in
        let taken : take most_samples (raws_to_come path_of start) ≡ front ++ more = ap (take most_samples) all_parts ∙ take_front most_samples front rest now_few in
        let many_frames : nat_lt most_frames_in_all (frames_in (distinct columns (take most_samples (raws_to_come path_of start)))) ≡ true =
        ap (λ (l : List ColumnRaw). nat_lt most_frames_in_all (frames_in (distinct columns l))) taken ∙ lt-ltb most_frames_in_all (frames_in (distinct columns (front ++ more))) (omega (arith, over, grows)) in
        ap (λ (b : Bool). tested b TooMany (distinct columns (take most_samples (raws_to_come path_of start))) >>= λ _. within_samples (raws_to_come path_of start)) many_frames ∙ ap Err is.1
      where
        take_front : (n : ℕ) (xs ys : List ColumnRaw) → length xs ≤ n → take n (xs ++ ys) ≡ xs ++ take (n - length xs) ys
        take_front n [] ys le = ap (λ (k : ℕ). take k ys) (let e : n ≡ n - 0 = omega arith in e)
        take_front zero (x ∷ xs) ys le = absurd (omega arith)
        take_front (suc n) (x ∷ xs) ys le = ap (λ (l : List ColumnRaw). x ∷ l) (take_front n xs ys (omega arith) ∙ ap (λ (k : ℕ). xs ++ take k ys) (let e : n - length xs ≡ suc n - length (x ∷ xs) = omega arith in e))

    pub so_far_refused : (fail : Fail InputFault) → FailsBy fail (within_frames (distinct (length ccts) (sofar.done ++ column_raw events sample ∷ [])))
        → ((more : List ColumnRaw) → All (λ s. s.column < columns) more → frames_in (distinct columns (sofar.done ++ column_raw events sample ∷ [])) ≤ frames_in (distinct columns ((sofar.done ++ column_raw events sample ∷ []) ++ more)))
        → FailsBy fail (few_samples columns (raws_to_come path_of start))
    so_far_refused (fails.Fault fault) within grow = so_far_frames fault within grow
    so_far_refused (fails.Memory memory) within grow = tt

  -- the frames of what was counted fit
  fit : (rest : List ColumnRaw) → take most_samples (raws_to_come path_of start) ≡ sofar.done → few_samples columns (raws_to_come path_of start) ≡ within_samples (raws_to_come path_of start)
  fit rest front =
      let few : frames_in (distinct columns (take most_samples (raws_to_come path_of start))) ≤ most_frames_in_all =
      (let same = ap (λ (l : List ColumnRaw). frames_in (distinct columns l)) front in let are = ap frames_in sofar.counts in let fits = sofar.fits in omega (arith, same, are, fits)) in
      ap (λ (b : Bool). tested b TooMany (distinct columns (take most_samples (raws_to_come path_of start))) >>= λ _. within_samples (raws_to_come path_of start)) (le-ltb most_frames_in_all (frames_in (distinct columns (take most_samples (raws_to_come path_of start)))) few)

  -- none is left
  pub done_all : IsOver path_of old new → raws_to_come path_of start ≡ sofar.done
  done_all over = sofar.parts ∙ ap (λ (l : List Sample). sofar.done ++ map (column_raw (length old.events)) l) over.none ∙ append-nil sofar.done

  pub so_far_over : IsOver path_of old new → (to_come new.machine).final ≡ (to_come old.machine).final → AllCounted path_of columns ccts start new
  so_far_over over last =
      let all : raws_to_come path_of start ≡ sofar.done = done_all over in
      let front : take most_samples (raws_to_come path_of start) ≡ sofar.done = ap (take most_samples) all ∙ take_all most_samples sofar.done sofar.few in
      let long : length (raws_to_come path_of start) ≤ most_samples = (let same = ap (λ (l : List ColumnRaw). length l) all in let few = sofar.few in omega (arith, same, few)) in
      record {
        few = fit [] front ∙ ap (λ (b : Bool). tested b TooManySamples (raws_to_come path_of start)) (le-ltb most_samples (length (raws_to_come path_of start)) long);
        counts = sofar.counts ∙ ap (distinct columns) (sym all);
        all = sofar.count ∙ ap (λ (l : List ColumnRaw). length l) (sym all);
        own = subst (All (λ (s : ColumnRaw). s.column < columns)) (sym all) sofar.done_own;
        ended = sym (ap (λ (r : Run). r.final) over.ended) ∙ last ∙ sofar.at_end;
      }

  -- one more than there may be
  pub so_far_many : (fault : InputFault) → Exceeds path_of fault old new → few_samples columns (raws_to_come path_of start) ≡ Err fault
  so_far_many fault exceeds =
      let rest : List ColumnRaw = raws_to_come path_of old in
      let long : most_samples ≤ length sofar.done = (let met = sofar.met in let full = exceeds.many.full in omega (arith, met, full)) in
      let front : take most_samples (raws_to_come path_of start) ≡ sofar.done = ap (take most_samples) sofar.parts ∙ take-append-le most_samples sofar.done rest long ∙ take_all most_samples sofar.done sofar.few in
      let total : length (raws_to_come path_of start) ≡ length sofar.done + length rest = ap (λ (l : List ColumnRaw). length l) sofar.parts ∙ length-append sofar.done rest in
      let more : most_samples < length (raws_to_come path_of start) =
      (let met = sofar.met in let few = sofar.few in let now = exceeds.many.over in let all = exceeds.many.all in let a = raws_long old in omega (arith, total, long, met, few, now, all, a)) in
      fit rest front ∙ ap (λ (b : Bool). tested b TooManySamples (raws_to_come path_of start)) (lt-ltb most_samples (length (raws_to_come path_of start)) more) ∙ ap Err (sym exceeds.is)
    where
      raws_long : (s : Sampling) → length (raws_to_come path_of s) ≡ length (samples_to_come path_of s)
      raws_long s = length-map (samples_to_come path_of s) (column_raw (length s.events))

  pub so_far_stops : (fail : Fail InputFault) → Stops path_of fail old new → FailsBy fail (few_samples columns (raws_to_come path_of start))
  so_far_stops (fails.Fault fault) stops = so_far_many fault stops
  so_far_stops (fails.Memory memory) stops = tt

-- what the answer says
pub given_by : (path_of : Paths) (answer : Option Sample) (sample : Sample) (old new : Sampling) → answer ≡ Some sample → GivesNext path_of (Ok answer) old new → GivesOne path_of sample old new
given_by path_of answer sample old new is goes = subst (λ (o : Option Sample). GivesNext path_of (Ok o) old new) is goes

pub over_by : (path_of : Paths) (answer : Option Sample) (old new : Sampling) → answer ≡ None → GivesNext path_of (Ok answer) old new → IsOver path_of old new
over_by path_of answer old new is goes = subst (λ (o : Option Sample). GivesNext path_of (Ok o) old new) is goes
