-- What `merge` stores is read as the content of the samples of all runs; and what it makes of one measurement.
use Rattle.std.proofs.Common.{◌≡◌, ℕ, suc, ◌+◌, ◌≤◌, ◌&&◌, nat_lt, Bool, true, false, cond, if◌then◌else◌, List, [], ◌∷◌, length, All, Result, Ok, Err, refl, sym, ap, ap₂, subst, ◌∙◌, append-nil, le-ltb, arith}
use Rattle.std.proofs.lemmas.List.Elements.{All-cons, All-head, All-nil, All-tail}
use Rattle.prof_bytes.specs.Number.{IsBytes}
use Rattle.prof_bytes.specs.Outcome.{◌>>=◌}
use Rattle.prof_bytes.proofs.Outcomes.{bind_ok, ok_same}
use Rattle.elf_image.specs.Image.{ProgramImage}
use Rattle.measure_file.specs.declared.fault.MeasureFault.{MeasureFault}
use Rattle.measure_file.specs.declared.head.EventHead.{EventHead}
use Rattle.measure_file.specs.Measurable.{AreMeasured, AreSampled, IsEventMeasurable}
use Rattle.measure_file.specs.Reading.{event_measurement_in}
use Rattle.scope_types.specs.declared.event.EventPeriod.{EventPeriod}
use Rattle.scope_types.specs.declared.frame.Counted.{Counted}
use Rattle.scope_types.specs.Columns.{columns_of}
use Rattle.scope_types.specs.Distinct.{each_sample, frames_in, samples_in}
use Rattle.scope_types.specs.Events.{event_number}
use Rattle.scope_types.specs.Limits.{most_frames_in_all, most_samples}
use Rattle.prof_db.specs.Stored.{IsWord}
use Rattle.command_line.specs.declared.status.InputFault.{InputFault}
use Rattle.command_line.specs.declared.status.InputFault.TheVariants.{Measurement, Merging, TooManyFrames, TooManySamples, WrongProgram}
use Rattle.command_line.specs.declared.status.MergeFault.TheVariants as merge_faults
use Rattle.hpc_laws.specs.Apart.{MergeOfOne, OneIsProf}
use Rattle.run_profile.specs.Attribution.{attributed, attribution_of}
use Rattle.hpc_laws.specs.Databases.{IsDatabaseOf, MergesStoreDatabases}
use Rattle.command_line.specs.Faulted.{faulted}
use Rattle.command_line.specs.declared.product.Product.{Product}
use Rattle.program_run.specs.Program.{program}
use Rattle.program_run.specs.Samples.{within_counts, within_frames}
use Rattle.program_run.specs.Scopes.{program_scopes}
use Rattle.hpc_top.specs.commands.Merge.{KeptRun, all_tables, another_program, first_events, harts_of_runs, measurement_at, measurements_from, merge_product, merged_runs, mixed_periods, of_one_program, of_same_events, same_event, same_events, within_limits}
use Rattle.hpc_top.specs.commands.Prof.{attributed_code, is_of_program, measurement, of_program, prof_product}
use Rattle.hpc_laws.proofs.Apart.{same_number}
use Rattle.program_run.proofs.Collecting.{at_most, tested_ok}
use Rattle.command_line.proofs.Faults.{from_faulted}
use Rattle.hpc_top.proofs.KeptRuns.{IsKept, all_measured, counts_within, first_are, kept_runs, runs_columns_are}
use Rattle.hpc_laws.proofs.ScopesRead.{scopes_read}
use Rattle.hpc_laws.proofs.SmallNumbers.{AreScopesOf}
use Rattle.hpc_laws.proofs.StoredSamples.{MeasuredLaws, StoredLaws, database_attributed, measured_sampled}

-- ---- the runs that are read

pub kept_all : MeasuredLaws → (place : ℕ) (texts : List (List ℕ)) (runs : List KeptRun) → All IsBytes texts → measurements_from place texts ≡ Ok runs → All IsKept runs × (length runs ≡ length texts)
kept_all laws place [] runs bytes is =
    subst (λ (rs : List KeptRun). All IsKept rs × (length rs ≡ 0)) (ok_same [] runs is) (All-nil IsKept, refl)
kept_all laws place (t ∷ texts) runs bytes is =
    let first = bind_ok (measurement_at place t) (λ run. measurements_from (place + 1) texts >>= λ runs. Ok (run ∷ runs)) runs is in
    let later = bind_ok (measurements_from (place + 1) texts) (λ runs. Ok (first.0 ∷ runs)) runs first.2 in
    let own : IsKept first.0 = laws.measurable t first.0 (All-head IsBytes t texts bytes) (from_faulted (λ (fault : MeasureFault). Merging place (merge_faults.Measurement fault.offset)) (event_measurement_in t) first.0 first.1) in
    let rest = kept_all laws (place + 1) texts later.0 (All-tail IsBytes t texts bytes) later.1 in
    subst (λ (rs : List KeptRun). All IsKept rs × (length rs ≡ suc (length texts))) (ok_same (first.0 ∷ later.0) runs later.2)
    (All-cons IsKept first.0 later.0 own rest.0, ap (λ (n : ℕ). suc n) rest.1)

-- the limits that they keep
pub limits_are : (runs : List KeptRun) (tables : List (List Counted)) → within_limits runs ≡ Ok tables → (all_tables runs ≡ tables) × (samples_in (all_tables runs) ≤ most_samples) × (frames_in (all_tables runs) ≤ most_frames_in_all)
limits_are runs tables is =
    let counts = bind_ok (within_counts (all_tables runs)) (λ tables. within_frames tables) tables is in
    let few = tested_ok (nat_lt most_samples (samples_in (all_tables runs))) TooManySamples (all_tables runs) counts.0 counts.1 in
    let frames = tested_ok (nat_lt most_frames_in_all (frames_in counts.0)) TooManyFrames counts.0 tables counts.2 in (
      few.1 ∙ frames.1,
      at_most most_samples (samples_in (all_tables runs)) few.0,
      subst (λ (ts : List (List Counted)). frames_in ts ≤ most_frames_in_all) (sym few.1) (at_most most_frames_in_all (frames_in counts.0) frames.0),
    )

-- ---- what is stored

pub runs_stored : StoredLaws → MeasuredLaws → MergesStoreDatabases
unfolding merge_product
runs_stored laws measured elf texts whole short some few bytes is =
    let runs = bind_ok (measurements_from 0 texts) (λ runs. program elf >>= λ image. merged_runs image runs) whole is in
    let image = bind_ok (program elf) (λ image. merged_runs image runs.0) whole runs.2 in
    let own = bind_ok (of_one_program image.0 runs.0) (λ done. of_same_events runs.0 >>= λ done. within_limits runs.0 >>= λ tables. attributed_code image.0 (first_events runs.0) (harts_of_runs runs.0) tables) whole image.2 in
    let same = bind_ok (of_same_events runs.0) (λ done. within_limits runs.0 >>= λ tables. attributed_code image.0 (first_events runs.0) (harts_of_runs runs.0) tables) whole own.2 in
    let tables = bind_ok (within_limits runs.0) (λ tables. attributed_code image.0 (first_events runs.0) (harts_of_runs runs.0) tables) whole same.2 in
    let scopes = bind_ok (program_scopes image.0) (λ scopes. attributed scopes (first_events runs.0) (harts_of_runs runs.0) (each_sample tables.0) >>= λ a. Ok (attribution_of a)) whole tables.2 in
    let a = bind_ok (attributed scopes.0 (first_events runs.0) (harts_of_runs runs.0) (each_sample tables.0)) (λ a. Ok (attribution_of a)) whole scopes.2 in
    let limits = limits_are runs.0 tables.0 tables.1 in
    let kept = kept_all measured 0 texts runs.0 bytes runs.1 in
    let many : length runs.0 ≡ length texts = kept.1 in
    let sound : AreMeasured (all_tables runs.0) = all_measured runs.0 kept.0 limits.1 limits.2 in
    let columns : length (all_tables runs.0) ≡ columns_of (length (first_events runs.0)) (harts_of_runs runs.0) = runs_columns_are runs.0 kept.0 (same.1 ∙ ap Ok (the_unit same.0)) in
    let of : AreScopesOf elf scopes.0 = scopes_read elf image.0 scopes.0 image.1 scopes.1 short in
    let taken : attributed scopes.0 (first_events runs.0) (harts_of_runs runs.0) (each_sample (all_tables runs.0)) ≡ Ok a.0 =
    subst (λ (ts : List (List Counted)). attributed scopes.0 (first_events runs.0) (harts_of_runs runs.0) (each_sample ts) ≡ Ok a.0) (sym limits.0) a.1 in
    let database : IsDatabaseOf a.0 (attribution_of a.0).stored =
    database_attributed laws (first_events runs.0) (first_are runs.0 (omega (arith, many, some)) kept.0) (first_small runs.0 kept.0) elf scopes.0 of (harts_of_runs runs.0) (kept_runs runs.0 (omega (arith, many, some)) (omega (arith, many, few)) kept.0) (each_sample (all_tables runs.0))
    (subst (λ (n : ℕ). AreSampled n (each_sample (all_tables runs.0))) columns (measured_sampled measured (all_tables runs.0) sound)) a.0 taken in
    record {
      runs = runs.0;
      kept = runs.1;
      image = image.0;
      read = image.1;
      scopes = scopes.0;
      found = scopes.1;
      samples = a.0;
      taken = taken;
      stored = subst (λ (made : Product). IsDatabaseOf a.0 made.stored) (ok_same (attribution_of a.0) whole a.2) database;
    }
  where
    the_unit : (u : Unit {0}) → u ≡ tt
    the_unit u = refl

    first_small : (runs : List KeptRun) → All IsKept runs → All (λ e. IsWord e.period) (first_events runs)
    first_small [] kept = All-nil (λ (e : EventPeriod). IsWord e.period)
    first_small (run ∷ runs) kept = (All-head IsKept run runs kept).periods

-- ---- one measurement

same_event_self : (e : EventPeriod) → same_event e e ≡ true
same_event_self e = ap₂ (λ (a b : Bool). a && b) (same_number (event_number e.event)) (same_number e.period)

pub same_events_self : (es : List EventPeriod) → same_events es es ≡ true
same_events_self [] = refl
same_events_self (e ∷ es) = ap₂ (λ (a b : Bool). a && b) (same_event_self e) (same_events_self es)

-- the one run is of the same events as the first
one_same : (run : KeptRun) → of_same_events (run ∷ []) ≡ Ok tt
one_same run = ap (λ (b : Bool). if b then Ok tt else Err (mixed_periods 0 run)) (same_events_self run.0.events)

one_program : (image : ProgramImage) (run : KeptRun) → is_of_program image run.0 ≡ true → of_one_program image (run ∷ []) ≡ Ok tt
one_program image run is = ap (λ (b : Bool). if b then Ok tt else Err (another_program image 0 run)) is

one_within : (run : KeptRun) → samples_in run.1 ≤ most_samples → frames_in run.1 ≤ most_frames_in_all → within_limits (run ∷ []) ≡ Ok run.1
one_within run samples frames =
    ap (λ (ts : List (List Counted)). within_counts ts >>= λ tables. within_frames tables) (append-nil run.1)
    ∙ ap (λ (r : Result (List (List Counted)) InputFault). r >>= λ tables. within_frames tables) (counts_within run.1 samples)
    ∙ ap (λ (b : Bool). cond b (Err TooManyFrames) (Ok run.1)) (le-ltb most_frames_in_all (frames_in run.1) frames)

-- what is made of one run of this program
one_merged : (image : ProgramImage) (run : KeptRun) → is_of_program image run.0 ≡ true → samples_in run.1 ≤ most_samples → frames_in run.1 ≤ most_frames_in_all → merged_runs image (run ∷ []) ≡ attributed_code image run.0.events (run.0.harts ∷ []) run.1
one_merged image run is samples frames =
    ap (λ (r : Result (Unit {0}) InputFault). r >>= λ done. of_same_events (run ∷ []) >>= λ done. within_limits (run ∷ []) >>= λ tables. attributed_code image run.0.events (run.0.harts ∷ []) tables) (one_program image run is)
    ∙ ap (λ (r : Result (Unit {0}) InputFault). r >>= λ done. within_limits (run ∷ []) >>= λ tables. attributed_code image run.0.events (run.0.harts ∷ []) tables) (one_same run)
    ∙ ap (λ (r : Result (List (List Counted)) InputFault). r >>= λ tables. attributed_code image run.0.events (run.0.harts ∷ []) tables) (one_within run samples frames)

-- a head that is of the program
is_own : (same : Bool) (head own : EventHead) (fault : InputFault) → cond same (Ok head) (Err fault) ≡ Ok own → (same ≡ true) × (head ≡ own)
is_own true head own fault e = (refl, ok_same head own e)
is_own false head own fault e = absurd cc

pub merge_of_one : MeasuredLaws → MergeOfOne
unfolding prof_product merge_product
merge_of_one laws elf bytes whole are is =
    let m = bind_ok (measurement bytes) (λ (head, tables). program elf >>= λ image. of_program image head >>= λ head. attributed_code image head.events (head.harts ∷ []) tables) whole is in
    let run : KeptRun = m.0 in
    let image = bind_ok (program elf) (λ image. of_program image run.0 >>= λ head. attributed_code image head.events (head.harts ∷ []) run.1) whole m.2 in
    let own = bind_ok (of_program image.0 run.0) (λ head. attributed_code image.0 head.events (head.harts ∷ []) run.1) whole image.2 in
    let same = is_own (is_of_program image.0 run.0) run.0 own.0 (WrongProgram run.0.length run.0.entry (length image.0.file) image.0.entry) own.1 in
    let read : event_measurement_in bytes ≡ Ok run = from_faulted (λ (fault : MeasureFault). Measurement fault.offset) (event_measurement_in bytes) m.0 m.1 in
    let sound : IsEventMeasurable run.0 run.1 = laws.measurable bytes m.0 are read in
    let made : attributed_code image.0 run.0.events (run.0.harts ∷ []) run.1 ≡ Ok whole = ap (λ (h : EventHead). attributed_code image.0 h.events (h.harts ∷ []) run.1) same.1 ∙ own.2 in
    ap (λ (r : Result KeptRun MeasureFault). (faulted (λ fault. Merging 0 (merge_faults.Measurement fault.offset)) r >>= λ run. Ok (run ∷ [])) >>= λ runs. program elf >>= λ image. merged_runs image runs) read
    ∙ ap (λ (r : Result ProgramImage InputFault). r >>= λ image. merged_runs image (run ∷ [])) image.1
    ∙ one_merged image.0 run same.0 sound.counts.samples sound.counts.frames
    ∙ made

-- the test that a run passed
passed : (same : Bool) (fault : InputFault) (u : Unit {0}) → (if same then Ok tt else Err fault) ≡ Ok u → same ≡ true
passed true fault u e = refl
passed false fault u e = absurd cc

pub one_is_prof : OneIsProf
unfolding prof_product merge_product
one_is_prof elf bytes whole is =
    let runs = bind_ok (measurements_from 0 (bytes ∷ [])) (λ runs. program elf >>= λ image. merged_runs image runs) whole is in
    let first = bind_ok (measurement_at 0 bytes) (λ run. Ok (run ∷ [])) runs.0 runs.1 in
    let run : KeptRun = first.0 in
    let read : event_measurement_in bytes ≡ Ok run = from_faulted (λ (fault : MeasureFault). Merging 0 (merge_faults.Measurement fault.offset)) (event_measurement_in bytes) first.0 first.1 in
    let later : (program elf >>= λ image. merged_runs image (run ∷ [])) ≡ Ok whole = ap (λ (rs : List KeptRun). program elf >>= λ image. merged_runs image rs) (ok_same (run ∷ []) runs.0 first.2) ∙ runs.2 in
    let image = bind_ok (program elf) (λ image. merged_runs image (run ∷ [])) whole later in
    let own = bind_ok (of_one_program image.0 (run ∷ [])) (λ done. of_same_events (run ∷ []) >>= λ done. within_limits (run ∷ []) >>= λ tables. attributed_code image.0 run.0.events (run.0.harts ∷ []) tables) whole image.2 in
    let same = bind_ok (of_same_events (run ∷ [])) (λ done. within_limits (run ∷ []) >>= λ tables. attributed_code image.0 run.0.events (run.0.harts ∷ []) tables) whole own.2 in
    let tables = bind_ok (within_limits (run ∷ [])) (λ tables. attributed_code image.0 run.0.events (run.0.harts ∷ []) tables) whole same.2 in
    let limits = limits_are (run ∷ []) tables.0 tables.1 in
    let test : is_of_program image.0 run.0 ≡ true = passed (is_of_program image.0 run.0) (another_program image.0 0 run) own.0 own.1 in
    let made : attributed_code image.0 run.0.events (run.0.harts ∷ []) run.1 ≡ Ok whole =
    ap (λ (ts : List (List Counted)). attributed_code image.0 run.0.events (run.0.harts ∷ []) ts) (sym (append-nil run.1) ∙ limits.0) ∙ tables.2 in
    ap (λ (r : Result KeptRun MeasureFault). faulted (λ fault. Measurement fault.offset) r >>= λ (head, tables). program elf >>= λ image. of_program image head >>= λ head. attributed_code image head.events (head.harts ∷ []) tables) read
    ∙ ap (λ (r : Result ProgramImage InputFault). r >>= λ image. of_program image run.0 >>= λ head. attributed_code image head.events (head.harts ∷ []) run.1) image.1
    ∙ ap (λ (b : Bool). cond b (Ok run.0) (Err (WrongProgram run.0.length run.0.entry (length image.0.file) image.0.entry)) >>= λ head. attributed_code image.0 head.events (head.harts ∷ []) run.1) test
    ∙ made
