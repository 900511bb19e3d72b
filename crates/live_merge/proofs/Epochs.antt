-- The samples of a run, as they are counted.
use Rattle.std.proofs.Common.{◌≡◌, inl, ℕ, zero, suc, ◌+◌, ◌-◌, ◌<◌, ◌≤◌, Bool, true, false, cond, nat_lt, List, [], ◌∷◌, ◌++◌, length, map, take, All, Option, Some, None, Result, Ok, Err, refl, sym, ap, subst, ◌∙◌, arith, append-nil, append_assoc, take_all}
use Rattle.std.proofs.lemmas.Bool.Decides.{nat_tests}
use Rattle.std.proofs.lemmas.List.{length-append, length-map, map-append, take-append-le}
use Rattle.std.proofs.lemmas.List.Elements.{All-head, All-tail}
use Rattle.std.proofs.lemmas.Bool.{lt-ltb, le-ltb}
use Rattle.prof_bytes.specs.declared.fail.Fail.{Fail}
use Rattle.prof_bytes.specs.declared.fail.Fail.TheVariants as fails
use Rattle.prof_bytes.specs.Outcome.{◌>>=◌, FailsBy}
use Rattle.rv_run.specs.Run.{Run}
use Rattle.rv_run.specs.Progress.{to_come}
use Rattle.sample_clock.specs.declared.clock.Sample.{Sample}
use Rattle.sample_clock.specs.Samples.{Paths}
use Rattle.sample_clock.specs.Clock.{Sampling, samples_to_come}
use Rattle.scope_types.specs.declared.event.EventPeriod.{EventPeriod}
use Rattle.scope_types.specs.declared.frame.Counted.{Counted}
use Rattle.scope_types.specs.Distinct.{ColumnRaw, distinct, frames_in, samples_in}
use Rattle.scope_types.specs.Limits.{most_samples, most_frames_in_all}
use Rattle.thread_cct.specs.declared.ccts.TooManyFrames.{TooManyFrames}
use Rattle.thread_cct.specs.Adding.{few_frames, too_many}
use Rattle.live_merge.specs.declared.fault.LiveFault.{LiveFault}
use Rattle.live_merge.specs.declared.fault.LiveFault.TheVariants.{TooManySamples, TooManyFrames as TooMany}
use Rattle.live_merge.specs.Live.{AtSamples, Gave, coming, few_frames_of, few_of, few_of_run, raw_of}
use Rattle.live_merge.specs.private.Epochs.{AtFramesAfter, GivesNext, GivesNone, GivesOne, IsRest, MeetsLimit, StandsInEpoch, Stops, raws}
use Rattle.live_merge.proofs.Scopes.{frames_grow}

abbrev pub Tables : Type 0
Tables = List (List Counted)

-- ---- the limits

-- a test of two
abbrev pub tested : {X F : Type 0} → Bool → F → X → Result X F
tested many fault x = cond many (Err fault) (Ok x)

pub tested_ok : {X F : Type 0} (many : Bool) (fault : F) (x y : X) → tested many fault x ≡ Ok y → (many ≡ false) × (x ≡ y)
tested_ok true fault x y e = absurd cc
tested_ok false fault x y e = (refl, (let same : x ≡ y = cc in same))

pub tested_err : {X F : Type 0} (many : Bool) (fault other : F) (x : X) → tested many fault x ≡ Err other → (many ≡ true) × (fault ≡ other)
tested_err true fault other x e = (refl, (let same : fault ≡ other = cc in same))
tested_err false fault other x e = absurd cc

pub at_most : (a b : ℕ) → nat_lt a b ≡ false → b ≤ a
at_most a b e = grind (arith, nat_tests)

pub is_above : (a b : ℕ) → nat_lt a b ≡ true → a < b
is_above a b e = grind (arith, nat_tests)

-- the same limit under this crate's fault
pub frames_ok : (tables after : Tables) → few_frames tables ≡ Ok after → few_frames_of tables ≡ Ok after
frames_ok tables after e =
    let is = tested_ok (nat_lt most_frames_in_all (frames_in tables)) too_many tables after e in
    ap (λ (b : Bool). tested b TooMany tables) is.0 ∙ ap Ok is.1

frames_err : (tables : Tables) (fault : TooManyFrames) → few_frames tables ≡ Err fault → few_frames_of tables ≡ Err TooMany
frames_err tables fault e =
    let is = tested_err (nat_lt most_frames_in_all (frames_in tables)) too_many fault tables e in
    ap (λ (b : Bool). tested b TooMany tables) is.0

pub frames_refused : (tables : Tables) (fail : Fail TooManyFrames) (fault : TooManyFrames) → fail ≡ fails.Fault fault → FailsBy fail (few_frames tables) → few_frames_of tables ≡ Err TooMany
frames_refused tables fail fault is refused = frames_err tables fault (subst (λ (f : Fail TooManyFrames). FailsBy f (few_frames tables)) is refused)

-- tables that are few enough, or too many
pub few_are : (tables after : Tables) → few_frames_of tables ≡ Ok after → (tables ≡ after) × (frames_in tables ≤ most_frames_in_all)
few_are tables after e =
    let is = tested_ok (nat_lt most_frames_in_all (frames_in tables)) TooMany tables after e in
    (is.1, at_most most_frames_in_all (frames_in tables) is.0)

pub few_ok : (tables : Tables) → frames_in tables ≤ most_frames_in_all → few_frames_of tables ≡ Ok tables
few_ok tables few = ap (λ (b : Bool). tested b TooMany tables) (le-ltb most_frames_in_all (frames_in tables) few)

pub many_are : (tables : Tables) (fault : LiveFault) → few_frames_of tables ≡ Err fault → (TooMany ≡ fault) × (most_frames_in_all < frames_in tables)
many_are tables fault e =
    let is = tested_err (nat_lt most_frames_in_all (frames_in tables)) TooMany fault tables e in
    (is.1, is_above most_frames_in_all (frames_in tables) is.0)

pub many_err : (tables : Tables) → most_frames_in_all < frames_in tables → few_frames_of tables ≡ Err TooMany
many_err tables many = ap (λ (b : Bool). tested b TooMany tables) (lt-ltb most_frames_in_all (frames_in tables) many)

-- ---- the limits of a whole run

-- the run's first samples have too many frames
pub run_frames : (columns : ℕ) (all front rest : List ColumnRaw) → all ≡ front ++ rest → length front ≤ most_samples → most_frames_in_all < frames_in (distinct columns front) → few_of_run columns all ≡ Err TooMany
run_frames columns all front rest parts few many =
    let more : List ColumnRaw = take (most_samples - length front) rest in
    let grows : frames_in (distinct columns front) ≤ frames_in (distinct columns (front ++ more)) = frames_grow columns [] front more in
    let taken : take most_samples all ≡ front ++ more = ap (take most_samples) parts ∙ take_front most_samples front rest few in
    ap (λ (l : List ColumnRaw). few_frames_of (distinct columns l) >>= λ _. few_of all) taken
    ∙ ap (λ (r : Result Tables LiveFault). r >>= λ _. few_of all) (many_err (distinct columns (front ++ more)) (omega (arith, many, grows)))
  where
    take_front : (n : ℕ) (xs ys : List ColumnRaw) → length xs ≤ n → take n (xs ++ ys) ≡ xs ++ take (n - length xs) ys
    take_front n [] ys le = ap (λ (k : ℕ). take k ys) (let e : n ≡ n - 0 = omega arith in e)
    take_front zero (x ∷ xs) ys le = absurd (omega arith)
    take_front (suc n) (x ∷ xs) ys le = ap (λ (l : List ColumnRaw). x ∷ l) (take_front n xs ys (omega arith) ∙ ap (λ (k : ℕ). xs ++ take k ys) (let e : n - length xs ≡ suc n - length (x ∷ xs) = omega arith in e))

-- its first samples, which are as many as there may be, have few enough
run_fits : (columns : ℕ) (all front : List ColumnRaw) → take most_samples all ≡ front → frames_in (distinct columns front) ≤ most_frames_in_all → few_of_run columns all ≡ few_of all
run_fits columns all front taken few =
    ap (λ (l : List ColumnRaw). few_frames_of (distinct columns l) >>= λ _. few_of all) taken
    ∙ ap (λ (r : Result Tables LiveFault). r >>= λ _. few_of all) (few_ok (distinct columns front) few)

pub run_many : (columns : ℕ) (all front rest : List ColumnRaw) → all ≡ front ++ rest → length front ≤ most_samples → most_samples ≤ length front → 0 < length rest → frames_in (distinct columns front) ≤ most_frames_in_all → few_of_run columns all ≡ Err TooManySamples
run_many columns all front rest parts least most some few =
    let taken : take most_samples all ≡ front = ap (take most_samples) parts ∙ take-append-le most_samples front rest most ∙ take_all most_samples front least in
    let total : length all ≡ length front + length rest = ap (λ (l : List ColumnRaw). length l) parts ∙ length-append front rest in
    let more : most_samples < length all = omega (arith, total, most, some) in
    run_fits columns all front taken few ∙ ap (λ (b : Bool). tested b TooManySamples all) (lt-ltb most_samples (length all) more)

pub run_few : (columns : ℕ) (all : List ColumnRaw) → length all ≤ most_samples → frames_in (distinct columns all) ≤ most_frames_in_all → few_of_run columns all ≡ Ok all
run_few columns all least few =
    run_fits columns all all (take_all most_samples all least) few ∙ ap (λ (b : Bool). tested b TooManySamples all) (le-ltb most_samples (length all) least)

-- ---- samples that were given

pub no_samples : (path_of : Paths) (s : Sampling) → Gave path_of [] s s
no_samples path_of s = record { parts = refl; events = refl }

pub gave_more : (path_of : Paths) (xs ys : List Sample) (a b c : Sampling) → Gave path_of xs a b → Gave path_of ys b c → Gave path_of (xs ++ ys) a c
gave_more path_of xs ys a b c first second = record {
  parts = first.parts ∙ ap (λ (l : List Sample). xs ++ l) second.parts ∙ sym (append_assoc xs ys (samples_to_come path_of c));
  events = second.events ∙ first.events;
}

pub gave_one : (path_of : Paths) (sample : Sample) (old new : Sampling) → GivesOne path_of sample old new → Gave path_of (sample ∷ []) old new
gave_one path_of sample old new one = record { parts = one.given.to_come; events = one.events }

-- the raw paths that are to come
pub coming_parts : (path_of : Paths) (xs : List Sample) (a b : Sampling) → Gave path_of xs a b → coming path_of a ≡ raws a xs ++ coming path_of b
coming_parts path_of xs a b gave =
    ap (map (raw_of (length a.events))) gave.parts ∙ map-append (raw_of (length a.events)) xs (samples_to_come path_of b)
    ∙ ap (λ (es : List EventPeriod). raws a xs ++ map (raw_of (length es)) (samples_to_come path_of b)) (sym gave.events)

pub raws_more : (s : Sampling) (xs ys : List Sample) → raws s (xs ++ ys) ≡ raws s xs ++ raws s ys
raws_more s xs ys = map-append (raw_of (length s.events)) xs ys

pub raws_long : (s : Sampling) (xs : List Sample) → length (raws s xs) ≡ length xs
raws_long s xs = length-map xs (raw_of (length s.events))

pub coming_long : (path_of : Paths) (s : Sampling) → length (coming path_of s) ≡ length (samples_to_come path_of s)
coming_long path_of s = length-map (samples_to_come path_of s) (raw_of (length s.events))

-- ---- so far

abbrev pub IsOwn : ℕ → ColumnRaw → Type 0
IsOwn columns s = s.column < columns

-- the samples that were given were counted with all before
pub record AllSoFar (path_of : Paths) (columns events : ℕ) (first : Tables) (start now : Sampling) (taken : ℕ) (all : Tables) : Type 0 where
  pub given : List Sample
  pub gave : Gave path_of given start now
  pub as_many : length given ≡ taken
  pub same : length start.events ≡ events
  pub met : now.met ≡ start.met + length given
  pub few : now.met ≤ most_samples
  pub last : (to_come now.machine).final ≡ (to_come start.machine).final
  pub left_own : All (IsOwn columns) (coming path_of now)
  pub all_long : length all ≡ columns
  pub count : samples_in all ≡ now.met
  pub all_are : (done : List ColumnRaw) → first ≡ distinct columns done → length done ≡ start.met → (all ≡ distinct columns (done ++ raws start given)) × (frames_in all ≤ most_frames_in_all)

abbrev pub all_first : (path_of : Paths) (columns events : ℕ) (first : Tables) (start : Sampling) → columns ≡ length first → length start.events ≡ events → All (IsOwn columns) (coming path_of start) → samples_in first ≡ start.met → samples_in first ≤ most_samples → frames_in first ≤ most_frames_in_all
    → AllSoFar path_of columns events first start start 0 first
all_first path_of columns events first start is same all met few frames = record {
  given = [];
  gave = no_samples path_of start;
  as_many = refl;
  same = same;
  met = omega arith;
  few = omega (arith, met, few);
  last = refl;
  left_own = all;
  all_long = sym is;
  count = met;
  all_are = λ done first_is long. (first_is ∙ ap (distinct columns) (sym (append-nil done)), frames);
}

module _ (path_of : Paths) (columns events : ℕ) (first : Tables) (start now next : Sampling) (taken : ℕ) (all : Tables) (sofar : AllSoFar path_of columns events first start now taken all) where
  now_events : length now.events ≡ events
  now_events = ap (λ (es : List EventPeriod). length es) sofar.gave.events ∙ sofar.same

  module _ (sample : Sample) (gives : GivesOne path_of sample now next) where
    abbrev raw : ColumnRaw
    raw = raw_of events sample

    abbrev given' : List Sample
    given' = sofar.given ++ sample ∷ []

    raw_is : raw_of (length now.events) sample ≡ raw
    raw_is = ap (λ (n : ℕ). raw_of n sample) now_events

    next_coming : coming path_of now ≡ raw ∷ coming path_of next
    next_coming = coming_parts path_of (sample ∷ []) now next (gave_one path_of sample now next gives) ∙ ap (λ (r : ColumnRaw). r ∷ coming path_of next) raw_is

    pub left : All (IsOwn columns) (raw ∷ coming path_of next)
    left = subst (All (IsOwn columns)) next_coming sofar.left_own

    pub own_raw : raw.column < columns
    own_raw = All-head (IsOwn columns) raw (coming path_of next) left

    pub all_column : raw.column < length all
    all_column = (let lt = own_raw in let long = sofar.all_long in omega (arith, lt, long))

    pub all_room : samples_in all < most_samples
    all_room = (let count = sofar.count in let one = gives.given.met in let few = gives.given.few in omega (arith, count, one, few))

    pub gave' : Gave path_of given' start next
    gave' = gave_more path_of sofar.given (sample ∷ []) start now next sofar.gave (gave_one path_of sample now next gives)

    pub given_long : length given' ≡ length sofar.given + 1
    given_long = length-append sofar.given (sample ∷ [])

    pub raws_are : raws start given' ≡ raws start sofar.given ++ raw ∷ []
    raws_are = raws_more start sofar.given (sample ∷ []) ∙ ap (λ (n : ℕ). raws start sofar.given ++ raw_of n sample ∷ []) sofar.same

    front_are : (done : List ColumnRaw) → done ++ raws start given' ≡ (done ++ raws start sofar.given) ++ raw ∷ []
    front_are done = ap (λ (l : List ColumnRaw). done ++ l) raws_are ∙ sym (append_assoc done (raws start sofar.given) (raw ∷ []))

    front_few : (done : List ColumnRaw) → length done ≡ start.met → length (done ++ raws start given') ≤ most_samples
    front_few done long =
        let both = length-append done (raws start given') in
        let own_raws = raws_long start given' in
        let size = given_long in
        let met = sofar.met in
        let one = gives.given.met in
        let few = gives.given.few in
        omega (arith, both, own_raws, size, met, one, few, long)

    -- with this sample
    pub all_more : (done : List ColumnRaw) (r : Result Tables LiveFault) → ((d : List ColumnRaw) → all ≡ distinct (length all) d → few_frames_of (distinct (length all) (d ++ raw ∷ [])) ≡ r)
        → first ≡ distinct columns done → length done ≡ start.met → few_frames_of (distinct columns (done ++ raws start given')) ≡ r
    all_more done r counts is long =
        let are : all ≡ distinct columns (done ++ raws start sofar.given) = (sofar.all_are done is long).0 in
        let asked : all ≡ distinct (length all) (done ++ raws start sofar.given) = are ∙ ap (λ (n : ℕ). distinct n (done ++ raws start sofar.given)) (sym sofar.all_long) in
        ap (λ (l : List ColumnRaw). few_frames_of (distinct columns l)) (front_are done)
        ∙ ap (λ (n : ℕ). few_frames_of (distinct n ((done ++ raws start sofar.given) ++ raw ∷ []))) (sym sofar.all_long)
        ∙ counts (done ++ raws start sofar.given) asked

    abbrev pub all_so_far_more : (all' : Tables) → (to_come next.machine).final ≡ (to_come now.machine).final
        → ((d : List ColumnRaw) → all ≡ distinct (length all) d → few_frames_of (distinct (length all) (d ++ raw ∷ [])) ≡ Ok all') → samples_in all' ≡ samples_in all + 1 → length all' ≡ length all
        → AllSoFar path_of columns events first start next (taken + 1) all'
    all_so_far_more all' last counts count long = record {
      given = given';
      gave = gave';
      as_many = (let size = given_long in let was = sofar.as_many in omega (arith, size, was));
      same = sofar.same;
      met = (let size = given_long in let was = sofar.met in let one = gives.given.met in omega (arith, size, was, one));
      few = gives.given.few;
      last = last ∙ sofar.last;
      left_own = All-tail (IsOwn columns) raw (coming path_of next) left;
      all_long = long ∙ sofar.all_long;
      count = (let was = sofar.count in let one = gives.given.met in omega (arith, was, one, count));
      all_are = λ done is done_long.
          let are = few_are (distinct columns (done ++ raws start given')) all' (all_more done (Ok all') counts is done_long) in
          let fits = are.1 in
          let same = ap frames_in are.0 in
          (sym are.0, omega (arith, fits, same));
    }

    -- too many frames with it
    pub so_far_refused : (fail : Fail LiveFault) → ((d : List ColumnRaw) → all ≡ distinct (length all) d → FailsBy fail (few_frames_of (distinct (length all) (d ++ raw ∷ []))))
        → (done : List ColumnRaw) → first ≡ distinct columns done → length done ≡ start.met → MeetsLimit path_of columns done fail start next
    so_far_refused (fails.Memory memory) counts done is long = inl (given', gave')
    so_far_refused (fails.Fault fault) counts done is long =
        let before = sofar.all_are done is long in
        let refused : few_frames_of (distinct columns (done ++ raws start given')) ≡ Err fault = all_more done (Err fault) counts is long in
        let many = many_are (distinct columns (done ++ raws start given')) fault refused in
        let parts : done ++ coming path_of start ≡ (done ++ raws start given') ++ coming path_of next =
        ap (λ (l : List ColumnRaw). done ++ l) (coming_parts path_of given' start next gave') ∙ sym (append_assoc done (raws start given') (coming path_of next)) in
        let at : AtFramesAfter path_of columns done start next = record {
          given = sofar.given;
          last = sample;
          gave = gave';
          few = few_ok (distinct columns (done ++ raws start sofar.given)) (let fits = before.1 in let same = ap frames_in before.0 in omega (arith, fits, same));
          many = refused ∙ ap Err (sym many.0);
        } in (
          run_frames columns (done ++ coming path_of start) (done ++ raws start given') (coming path_of next) parts (front_few done long) many.1 ∙ ap Err many.0,
          subst (λ (f : LiveFault). StandsInEpoch path_of columns done f start next) many.0 at,
        )

  -- none is left, and the run is at its end
  pub so_far_rest : GivesNone path_of now next → (to_come next.machine).final ≡ (to_come now.machine).final
      → (done : List ColumnRaw) → first ≡ distinct columns done → length done ≡ start.met → IsRest path_of columns done taken all start next
  so_far_rest none last done is long =
      let are = sofar.all_are done is long in
      record {
        given = sofar.given;
        none = sofar.gave.parts ∙ ap (λ (l : List Sample). sofar.given ++ l) none.over.none ∙ append-nil sofar.given;
        events = none.events ∙ sofar.gave.events;
        all_are = are.0;
        fits = are.1;
        samples_are = sym sofar.as_many;
        met = none.over.met ∙ sofar.met;
        few = (let met = none.over.met in let few = sofar.few in omega (arith, met, few));
        count = sofar.count ∙ sym none.over.met;
        ended = sym (ap (λ (r : Run). r.final) none.over.ended) ∙ last ∙ sofar.last;
        last = last ∙ sofar.last;
      }

  -- one more than there may be
  pub so_far_stops : (fail : Fail LiveFault) → Stops path_of fail now next
      → (done : List ColumnRaw) → first ≡ distinct columns done → length done ≡ start.met → MeetsLimit path_of columns done fail start next
  so_far_stops (fails.Memory memory) stops done is long = inl (sofar.given ++ [], gave_more path_of sofar.given [] start now next sofar.gave stops)
  so_far_stops (fails.Fault fault) stops done is long =
      let are = sofar.all_are done is long in
      let front : List ColumnRaw = done ++ raws start sofar.given in
      let parts : done ++ coming path_of start ≡ front ++ coming path_of now =
      ap (λ (l : List ColumnRaw). done ++ l) (coming_parts path_of sofar.given start now sofar.gave) ∙ sym (append_assoc done (raws start sofar.given) (coming path_of now)) in
      let both = length-append done (raws start sofar.given) in
      let own_raws = raws_long start sofar.given in
      let met = sofar.met in
      let few = sofar.few in
      let full = stops.many.full in
      let over = stops.many.over in
      let all_left = stops.many.all in
      let size = coming_long path_of now in
      let fits : frames_in (distinct columns front) ≤ most_frames_in_all = (let f = are.1 in let same = ap frames_in are.0 in omega (arith, f, same)) in
      let at : AtSamples path_of start next = record { given = sofar.given; before = now; gave = sofar.gave; many = stops.many } in (
        run_many columns (done ++ coming path_of start) front (coming path_of now) parts (omega (arith, both, own_raws, met, few, long)) (omega (arith, both, own_raws, met, full, long)) (omega (arith, few, over, all_left, size, full)) fits ∙ ap Err (sym stops.is),
        subst (λ (f : LiveFault). StandsInEpoch path_of columns done f start next) (sym stops.is) at,
      )

-- what the answer says
pub given_by : (path_of : Paths) (answer : Option Sample) (sample : Sample) (old new : Sampling) → answer ≡ Some sample → GivesNext path_of (Ok answer) old new → GivesOne path_of sample old new
given_by path_of answer sample old new is goes = subst (λ (o : Option Sample). GivesNext path_of (Ok o) old new) is goes

pub none_by : (path_of : Paths) (answer : Option Sample) (old new : Sampling) → answer ≡ None → GivesNext path_of (Ok answer) old new → GivesNone path_of old new
none_by path_of answer old new is goes = subst (λ (o : Option Sample). GivesNext path_of (Ok o) old new) is goes
