-- The runs of several measurements: read one after another, judged, and put together.
use Rattle.std.proofs.Common.{◌≡◌, ℕ, suc, ◌+◌, ◌*◌, ◌<◌, ◌≤◌, ◌^◌, nat_lt, Bool, true, false, cond, if◌then◌else◌, List, [], ◌∷◌, ◌++◌, length, get_or, map, take, drop, sum, sum_by, All, Result, Ok, Err, refl, sym, ap, subst, ◌∙◌, append-nil, append_assoc, take_all, le-ltb, arith}
use Rattle.std.specs.Cmp.Lexicographic.{as_long}
use Rattle.std.specs.List.{flat_map}
use Rattle.std.proofs.Math.Seq.{drop-cons}
use Rattle.std.proofs.lemmas.Grind.{flat_map-append}
use Rattle.std.proofs.lemmas.Bool.Decides.{nat_tests}
use Rattle.std.proofs.lemmas.List.{drop_all, length-append, length-map, length-take-le, take_more, take-append-drop}
use Rattle.std.proofs.lemmas.List.Elements.{All-append, All-cons, All-head, All-map, All-nil, All-tail, All-weaker}
use Rattle.std.proofs.lemmas.List.Sums.{sum_by-append, sum_by-cons}
use Rattle.std.proofs.lemmas.Nat.{mul-le}
use Rattle.prof_bytes.specs.declared.fail.Fail.{Fail}
use Rattle.prof_bytes.specs.declared.fail.Fail.TheVariants as fails
use Rattle.prof_bytes.specs.Outcome.{◌>>=◌, FailsBy}
use Rattle.prof_bytes.proofs.Outcomes.{bind_ok, ok_same}
use Rattle.measure_file.specs.declared.head.EventHead.{EventHead}
use Rattle.measure_file.specs.Measurable.{AreDistinct, AreMeasured, IsCounted, IsEventMeasurable}
use Rattle.scope_types.specs.declared.event.EventPeriod.{EventPeriod}
use Rattle.scope_types.specs.declared.frame.Counted.{Counted}
use Rattle.scope_types.specs.Columns.{columns_of}
use Rattle.scope_types.specs.Distinct.{frames_in, samples_in}
use Rattle.scope_types.specs.Events.{AreEvents}
use Rattle.scope_types.specs.Limits.{most_frames_in_all, most_harts, most_runs, most_samples}
use Rattle.command_line.specs.declared.status.InputFault.{InputFault}
use Rattle.command_line.specs.declared.status.InputFault.TheVariants.{TooManyFrames, TooManySamples}
use Rattle.program_run.specs.Samples.{within_counts, within_frames}
use Rattle.hpc_top.specs.commands.Merge.{KeptRun, all_tables, first_events, harts_of_runs, measurement_at, measurements_from, mixed_periods, of_same_events, runs_pass, same_event, same_events}
use Rattle.run_profile.specs.Merging.{AreRuns}
use Rattle.program_run.proofs.Collecting.{at_most, tested_ok}
use Rattle.run_report.proofs.FewEvents.{few_events}

-- a run that is as a measurement may be
abbrev pub IsKept : KeptRun → Type 0
IsKept run = IsEventMeasurable run.0 run.1

-- ---- read

-- a measurement more
measured_more : (place : ℕ) (ts : List (List ℕ)) (t : List ℕ) (runs : List KeptRun) (run : KeptRun) → measurements_from place ts ≡ Ok runs → measurement_at (place + length ts) t ≡ Ok run → measurements_from place (ts ++ t ∷ []) ≡ Ok (runs ++ run ∷ [])
measured_more place [] t runs run so_far one =
    let none : [] ≡ runs = ok_same [] runs so_far in
    let here : place + 0 ≡ place = omega arith in
    ap (λ (r : Result KeptRun InputFault). r >>= λ run. Ok (run ∷ [])) (ap (λ (n : ℕ). measurement_at n t) (sym here) ∙ one) ∙ ap (λ (rs : List KeptRun). Ok (rs ++ run ∷ [])) none
measured_more place (v ∷ ts) t runs run so_far one =
    let first = bind_ok (measurement_at place v) (λ run. measurements_from (place + 1) ts >>= λ runs. Ok (run ∷ runs)) runs so_far in
    let later = bind_ok (measurements_from (place + 1) ts) (λ runs. Ok (first.0 ∷ runs)) runs first.2 in
    let whole : first.0 ∷ later.0 ≡ runs = ok_same (first.0 ∷ later.0) runs later.2 in
    let there : place + suc (length ts) ≡ place + 1 + length ts = omega arith in
    ap (λ (r : Result KeptRun InputFault). r >>= λ run. measurements_from (place + 1) (ts ++ t ∷ []) >>= λ runs. Ok (run ∷ runs)) first.1
    ∙ ap (λ (r : Result (List KeptRun) InputFault). r >>= λ runs. Ok (first.0 ∷ runs)) (measured_more (place + 1) ts t later.0 run later.1 (ap (λ (n : ℕ). measurement_at n t) (sym there) ∙ one))
    ∙ ap (λ (rs : List KeptRun). Ok (rs ++ run ∷ [])) whole

-- the first that is at fault
measured_stops : (place : ℕ) (ts : List (List ℕ)) (t : List ℕ) (vs : List (List ℕ)) (runs : List KeptRun) (fault : InputFault) → measurements_from place ts ≡ Ok runs → measurement_at (place + length ts) t ≡ Err fault → measurements_from place (ts ++ t ∷ vs) ≡ Err fault
measured_stops place [] t vs runs fault so_far one =
    let here : place + 0 ≡ place = omega arith in
    ap (λ (r : Result KeptRun InputFault). r >>= λ run. measurements_from (place + 1) vs >>= λ runs. Ok (run ∷ runs)) (ap (λ (n : ℕ). measurement_at n t) (sym here) ∙ one)
measured_stops place (v ∷ ts) t vs runs fault so_far one =
    let first = bind_ok (measurement_at place v) (λ run. measurements_from (place + 1) ts >>= λ runs. Ok (run ∷ runs)) runs so_far in
    let later = bind_ok (measurements_from (place + 1) ts) (λ runs. Ok (first.0 ∷ runs)) runs first.2 in
    let there : place + suc (length ts) ≡ place + 1 + length ts = omega arith in
    ap (λ (r : Result KeptRun InputFault). r >>= λ run. measurements_from (place + 1) (ts ++ t ∷ vs) >>= λ runs. Ok (run ∷ runs)) first.1
    ∙ ap (λ (r : Result (List KeptRun) InputFault). r >>= λ runs. Ok (first.0 ∷ runs)) (measured_stops (place + 1) ts t vs later.0 fault later.1 (ap (λ (n : ℕ). measurement_at n t) (sym there) ∙ one))

module _ (ts : List (List ℕ)) (place : ℕ) (t : List ℕ) (within : place < length ts) (is : t ≡ get_or ts place t) where
  here : 0 + length (take place ts) ≡ place
  here = (let long = length-take-le place ts (omega (arith, within)) in omega (arith, long))

  pub read_more : (runs more : List KeptRun) (run : KeptRun) → measurements_from 0 (take place ts) ≡ Ok runs → measurement_at place t ≡ Ok run → more ≡ runs ++ run ∷ [] → measurements_from 0 (take (place + 1) ts) ≡ Ok more
  read_more runs more run so_far one are =
      ap (measurements_from 0) (take_more ts place t within ∙ ap (λ (v : List ℕ). take place ts ++ v ∷ []) (sym is))
      ∙ measured_more 0 (take place ts) t runs run so_far (ap (λ (n : ℕ). measurement_at n t) here ∙ one) ∙ ap (λ (rs : List KeptRun). Ok rs) (sym are)

  pub read_stops : (runs : List KeptRun) (fault : InputFault) → measurements_from 0 (take place ts) ≡ Ok runs → measurement_at place t ≡ Err fault → measurements_from 0 ts ≡ Err fault
  read_stops runs fault so_far one =
      ap (measurements_from 0) (sym (take-append-drop place ts) ∙ ap (λ (rest : List (List ℕ)). take place ts ++ rest) (drop-cons ts place t within ∙ ap (λ (v : List ℕ). v ∷ drop (suc place) ts) (sym is)))
      ∙ measured_stops 0 (take place ts) t (drop (suc place) ts) runs fault so_far (ap (λ (n : ℕ). measurement_at n t) here ∙ one)

  -- where reading it stops
  pub read_fails : (runs : List KeptRun) (given : List ℕ) (fail : Fail InputFault) → given ≡ t → measurements_from 0 (take place ts) ≡ Ok runs → FailsBy fail (measurement_at place given) → FailsBy fail (measurements_from 0 ts)
  read_fails runs given (fails.Fault fault) same so_far one = read_stops runs fault so_far (ap (measurement_at place) (sym same) ∙ one)
  read_fails runs given (fails.Memory memory) same so_far one = tt

pub kept_more : (before after : List KeptRun) (run : KeptRun) → All IsKept before → IsKept run → after ≡ before ++ run ∷ [] → All IsKept after
kept_more before after run kept own more = subst (All IsKept) (sym more) (All-append IsKept before (run ∷ []) kept (All-cons IsKept run [] own (All-nil IsKept)))

pub long_more : (before after : List KeptRun) (run : KeptRun) (place : ℕ) → length before ≡ place → after ≡ before ++ run ∷ [] → length after ≡ place + 1
long_more before after run place long more = (let both = length-append before (run ∷ []) in let same = ap (λ (l : List KeptRun). length l) more in omega (arith, long, both, same))

pub read_all : (ts : List (List ℕ)) (place : ℕ) (runs : List KeptRun) → length ts ≤ place → measurements_from 0 (take place ts) ≡ Ok runs → measurements_from 0 ts ≡ Ok runs
read_all ts place runs past so_far = ap (measurements_from 0) (sym (take_all place ts past)) ∙ so_far

-- ---- judged

module _ (test : KeptRun → Bool) (fault : ℕ → KeptRun → InputFault) (runs : List KeptRun) (place : ℕ) where
  module _ (run : KeptRun) (within : place < length runs) (is : run ≡ get_or runs place run) where
    rest_is : drop place runs ≡ run ∷ drop (suc place) runs
    rest_is = drop-cons runs place run within ∙ ap (λ (r : KeptRun). r ∷ drop (suc place) runs) (sym is)

    pub pass_more : test run ≡ true → runs_pass test fault 0 runs ≡ runs_pass test fault place (drop place runs) → runs_pass test fault 0 runs ≡ runs_pass test fault (place + 1) (drop (place + 1) runs)
    pass_more passes so_far =
        let next : suc place ≡ place + 1 = omega arith in
        so_far ∙ ap (runs_pass test fault place) rest_is
        ∙ ap (λ (b : Bool). if b then runs_pass test fault (place + 1) (drop (suc place) runs) else Err (fault place run)) passes
        ∙ ap (λ (n : ℕ). runs_pass test fault (place + 1) (drop n runs)) next

    pub pass_stops : test run ≡ false → runs_pass test fault 0 runs ≡ runs_pass test fault place (drop place runs) → runs_pass test fault 0 runs ≡ Err (fault place run)
    pass_stops fails so_far =
        so_far ∙ ap (runs_pass test fault place) rest_is
        ∙ ap (λ (b : Bool). if b then runs_pass test fault (place + 1) (drop (suc place) runs) else Err (fault place run)) fails

  pub pass_all : length runs ≤ place → runs_pass test fault 0 runs ≡ runs_pass test fault place (drop place runs) → runs_pass test fault 0 runs ≡ Ok tt
  pass_all past so_far = so_far ∙ ap (runs_pass test fault place) (drop_all place runs past)

-- runs that pass a test from a place on
pub all_pass : (test : KeptRun → Bool) (fault : ℕ → KeptRun → InputFault) (place : ℕ) (runs : List KeptRun) → runs_pass test fault place runs ≡ Ok tt → All (λ run. test run ≡ true) runs
all_pass test fault place [] is = All-nil (λ (run : KeptRun). test run ≡ true)
all_pass test fault place (run ∷ runs) is = tested (test run) refl (λ e. all_pass test fault (place + 1) runs e) is
  where
    tested : (b : Bool) → test run ≡ b → (runs_pass test fault (place + 1) runs ≡ Ok tt → All (λ run. test run ≡ true) runs) → (if b then runs_pass test fault (place + 1) runs else Err (fault place run)) ≡ Ok tt
        → All (λ run. test run ≡ true) (run ∷ runs)
    tested true passes rest e = All-cons (λ (run : KeptRun). test run ≡ true) run runs passes (rest e)
    tested false passes rest e = absurd cc

-- ---- the columns of all runs

abbrev pub HasEvents : ℕ → KeptRun → Type 0
HasEvents events run = length run.0.events ≡ events

pub same_many : (runs : List KeptRun) → of_same_events runs ≡ Ok tt → All (HasEvents (length (first_events runs))) runs
same_many runs is =
    let first : List EventPeriod = first_events runs in
    All-weaker (λ (run : KeptRun). same_events (first_events runs) run.0.events ≡ true) (HasEvents (length (first_events runs))) (λ run e. sym (as_long same_event (first_events runs) run.0.events e)) runs
    (all_pass (λ run. same_events (first_events runs) run.0.events) mixed_periods 0 runs is)

columns_by : (events : ℕ) (runs : List KeptRun) → All IsKept runs → All (HasEvents events) runs → length (all_tables runs) ≡ columns_of events (harts_of_runs runs)
columns_by events [] kept has = omega arith
columns_by events (run ∷ runs) kept has =
    let own = (All-head IsKept run runs kept).columns in
    let same : length run.0.events ≡ events = All-head (HasEvents events) run runs has in
    let here : length run.1 ≡ run.0.harts * events = own ∙ ap (λ (n : ℕ). run.0.harts * n) same in
    let rest = columns_by events runs (All-tail IsKept run runs kept) (All-tail (HasEvents events) run runs has) in
    let both = length-append run.1 (all_tables runs) in
    let harts = sum_by-cons (λ (n : ℕ). n) run.0.harts (harts_of_runs runs) in
    let spread : (run.0.harts + sum (harts_of_runs runs)) * events ≡ run.0.harts * events + sum (harts_of_runs runs) * events = grind arith in
    both ∙ (λ i. here i + rest i) ∙ sym spread ∙ ap (λ (n : ℕ). n * events) (sym harts)

pub runs_columns_are : (runs : List KeptRun) → All IsKept runs → of_same_events runs ≡ Ok tt → length (all_tables runs) ≡ columns_of (length (first_events runs)) (harts_of_runs runs)
runs_columns_are runs kept same = columns_by (length (first_events runs)) runs kept (same_many runs same)

pub first_are : (runs : List KeptRun) → 1 ≤ length runs → All IsKept runs → AreEvents (first_events runs)
first_are [] some kept = absurd (omega (arith, some))
first_are (run ∷ runs) some kept = (All-head IsKept run runs kept).events

pub kept_runs : (runs : List KeptRun) → 1 ≤ length runs → length runs ≤ most_runs → All IsKept runs → AreRuns (harts_of_runs runs)
kept_runs runs some few kept =
    let long : length (harts_of_runs runs) ≡ length runs = length-map runs (λ run. run.0.harts) in
    record {
      some = omega (arith, long, some);
      few = omega (arith, long, few);
      harts = All-map (λ (h : ℕ). (0 < h) × (h ≤ most_harts)) (λ (run : KeptRun). run.0.harts) runs (λ k d lt. (let own = kept k d lt in (own.some, own.few)));
    }

-- ---- the paths of all runs

all_counted : (runs : List KeptRun) → All IsKept runs → All (All IsCounted) (all_tables runs)
all_counted [] kept = All-nil (All IsCounted)
all_counted (run ∷ runs) kept = All-append (All IsCounted) run.1 (all_tables runs) (All-head IsKept run runs kept).counts.paths (all_counted runs (All-tail IsKept run runs kept))

all_distinct : (runs : List KeptRun) → All IsKept runs → All AreDistinct (all_tables runs)
all_distinct [] kept = All-nil AreDistinct
all_distinct (run ∷ runs) kept = All-append AreDistinct run.1 (all_tables runs) (All-head IsKept run runs kept).counts.distinct (all_distinct runs (All-tail IsKept run runs kept))

pub all_measured : (runs : List KeptRun) → All IsKept runs → samples_in (all_tables runs) ≤ most_samples → frames_in (all_tables runs) ≤ most_frames_in_all → AreMeasured (all_tables runs)
all_measured runs kept samples frames = record {
  paths = all_counted runs kept;
  distinct = all_distinct runs kept;
  samples = samples;
  frames = frames;
}

-- ---- the samples of all runs

pub samples_both : (xs ys : List (List Counted)) → samples_in (xs ++ ys) ≡ samples_in xs + samples_in ys
samples_both xs ys = sum_by-append (sum_by (λ (c : Counted). c.count)) xs ys

pub frames_both : (xs ys : List (List Counted)) → frames_in (xs ++ ys) ≡ frames_in xs + frames_in ys
frames_both xs ys = sum_by-append (sum_by (λ (c : Counted). length c.path.frames)) xs ys

tables_more : (runs : List KeptRun) (place : ℕ) (run : KeptRun) → place < length runs → run ≡ get_or runs place run → all_tables (take (place + 1) runs) ≡ all_tables (take place runs) ++ run.1
tables_more runs place run within is =
    ap all_tables (take_more runs place run within ∙ ap (λ (r : KeptRun). take place runs ++ r ∷ []) (sym is))
    ∙ flat_map-append (λ (r : KeptRun). r.1) (take place runs) (run ∷ []) ∙ ap (λ (ts : List (List Counted)). all_tables (take place runs) ++ ts) (append-nil run.1)

tables_split : (runs : List KeptRun) (place : ℕ) → all_tables runs ≡ all_tables (take place runs) ++ all_tables (drop place runs)
tables_split runs place = ap all_tables (sym (take-append-drop place runs)) ∙ flat_map-append (λ (r : KeptRun). r.1) (take place runs) (drop place runs)

module _ (runs : List KeptRun) (place : ℕ) (run : KeptRun) (within : place < length runs) (is : run ≡ get_or runs place run) where
  pub count_more : (before after own : ℕ) → before ≡ samples_in (all_tables (take place runs)) → own ≡ samples_in run.1 → after ≡ before + own → after ≡ samples_in (all_tables (take (place + 1) runs))
  count_more before after own so_far here more =
      let both = samples_both (all_tables (take place runs)) run.1 in
      let whole = ap samples_in (tables_more runs place run within is) in
      omega (arith, so_far, here, more, both, whole)

-- some of the runs have too many
pub counts_stop : (runs : List KeptRun) (place count : ℕ) → count ≡ samples_in (all_tables (take place runs)) → most_samples < count → within_counts (all_tables runs) ≡ Err TooManySamples
counts_stop runs place count is many =
    let both = samples_both (all_tables (take place runs)) (all_tables (drop place runs)) in
    let whole = ap samples_in (tables_split runs place) in
    let more : most_samples < samples_in (all_tables runs) = omega (arith, is, many, both, whole) in
    let test : nat_lt most_samples (samples_in (all_tables runs)) ≡ true = grind (arith, nat_tests) in
    ap (λ (b : Bool). cond b (Err TooManySamples) (Ok (all_tables runs))) test

pub counts_all : (runs : List KeptRun) (place count : ℕ) → length runs ≤ place → count ≡ samples_in (all_tables (take place runs)) → count ≤ most_samples → samples_in (all_tables runs) ≤ most_samples
counts_all runs place count past is few =
    let whole = ap (λ (rs : List KeptRun). samples_in (all_tables rs)) (take_all place runs past) in
    omega (arith, is, few, whole)

pub counts_within : (tables : List (List Counted)) → samples_in tables ≤ most_samples → within_counts tables ≡ Ok tables
counts_within tables few = ap (λ (b : Bool). cond b (Err TooManySamples) (Ok tables)) (le-ltb most_samples (samples_in tables) few)

-- ---- put together

-- the columns so far, and the runs that are left
pub record IsJoining (all : List (List Counted)) (left runs : List KeptRun) : Type 0 where
  pub whole : all ++ all_tables left ≡ all_tables runs
  pub kept : All IsKept left
  pub columns : length all + 256 * length left ≤ 4096
  pub frames : frames_in all ≤ most_frames_in_all

pub nothing_joined : (runs : List KeptRun) → length runs ≤ most_runs → All IsKept runs → IsJoining [] runs runs
nothing_joined runs few kept = record {
  whole = refl;
  kept = kept;
  columns = omega (arith, few);
  frames = omega arith;
}

few_tables : (run : KeptRun) → IsKept run → length run.1 ≤ 256
few_tables run kept =
    let own = kept.columns in
    let most : run.0.harts * length run.0.events ≤ 64 * 4 = mul-le run.0.harts (length run.0.events) 64 4 kept.few (few_events run.0.events kept.events) in
    omega (arith, own, most)

module _ (all : List (List Counted)) (left runs rest : List KeptRun) (head : EventHead) (tables : List (List Counted)) (joining : IsJoining all left runs) (is : left ≡ (head, tables) ∷ rest) where
  kept_here : All IsKept ((head, tables) ∷ rest)
  kept_here = subst (All IsKept) is joining.kept

  parts : (all ++ tables) ++ all_tables rest ≡ all_tables runs
  parts = append_assoc all tables (all_tables rest) ∙ ap (λ (rs : List KeptRun). all ++ all_tables rs) (sym is) ∙ joining.whole

  few_here : length tables ≤ 256
  few_here = few_tables (head, tables) (All-head IsKept (head, tables) rest kept_here)

  columns_here : length all + 256 * suc (length rest) ≤ 4096
  columns_here = subst (λ (rs : List KeptRun). length all + 256 * length rs ≤ 4096) is joining.columns

  pub join_columns : length all + length tables < 2 ^ 32
  join_columns = (let few = few_here in let most = columns_here in omega (arith, few, most))

  pub join_samples : samples_in (all_tables runs) ≤ most_samples → samples_in all + samples_in tables ≤ most_samples
  join_samples few =
      let whole = ap samples_in parts in
      let both = samples_both (all ++ tables) (all_tables rest) in
      let own = samples_both all tables in
      omega (arith, few, whole, both, own)

  pub join_more : (more : List (List Counted)) → within_frames (all ++ tables) ≡ Ok more → IsJoining more rest runs
  join_more more within =
      let tested = tested_ok (nat_lt most_frames_in_all (frames_in (all ++ tables))) TooManyFrames (all ++ tables) more within in
      let same : all ++ tables ≡ more = tested.1 in
      let long = length-append all tables in
      let longer = ap (λ (ts : List (List Counted)). length ts) same in
      let few = few_here in
      let most = columns_here in
      record {
        whole = ap (λ (ts : List (List Counted)). ts ++ all_tables rest) (sym same) ∙ parts;
        kept = All-tail IsKept (head, tables) rest kept_here;
        columns = omega (arith, long, longer, few, most);
        frames = subst (λ (ts : List (List Counted)). frames_in ts ≤ most_frames_in_all) same (at_most most_frames_in_all (frames_in (all ++ tables)) tested.0);
      }

  pub join_stops : (fault : InputFault) → within_frames (all ++ tables) ≡ Err fault → within_frames (all_tables runs) ≡ Err fault
  join_stops fault within = stopped (nat_lt most_frames_in_all (frames_in (all ++ tables))) refl within
    where
      stopped : (many : Bool) → nat_lt most_frames_in_all (frames_in (all ++ tables)) ≡ many → cond many (Err TooManyFrames) (Ok (all ++ tables)) ≡ Err fault → within_frames (all_tables runs) ≡ Err fault
      stopped true many e =
          let own : most_frames_in_all < frames_in (all ++ tables) = grind (arith, nat_tests) in
          let whole = ap frames_in parts in
          let both = frames_both (all ++ tables) (all_tables rest) in
          let more : most_frames_in_all < frames_in (all_tables runs) = omega (arith, own, whole, both) in
          let test : nat_lt most_frames_in_all (frames_in (all_tables runs)) ≡ true = grind (arith, nat_tests) in
          let same : TooManyFrames ≡ fault = cc in
          ap (λ (b : Bool). cond b (Err TooManyFrames) (Ok (all_tables runs))) test ∙ ap Err same
      stopped false many e = absurd cc

  pub join_fails : (fail : Fail InputFault) → FailsBy fail (within_frames (all ++ tables)) → FailsBy fail (within_frames (all_tables runs))
  join_fails (fails.Fault fault) within = join_stops fault within
  join_fails (fails.Memory memory) within = tt

pub join_all : (all : List (List Counted)) (left runs : List KeptRun) → IsJoining all left runs → left ≡ [] → within_frames (all_tables runs) ≡ Ok all
join_all all left runs joining none =
    let same : all ≡ all_tables runs = sym (append-nil all) ∙ ap (λ (rs : List KeptRun). all ++ all_tables rs) (sym none) ∙ joining.whole in
    ap within_frames (sym same) ∙ ap (λ (b : Bool). cond b (Err TooManyFrames) (Ok all)) (le-ltb most_frames_in_all (frames_in all) joining.frames)
