-- A run that is accepted: what it was made of, what it measured, and that what it stores is a measurement.
use Rattle.std.proofs.Common.{◌≡◌, ℕ, ◌<◌, ◌≤◌, ◌^◌, nat_lt, Bool, true, false, cond, List, [], ◌∷◌, length, map, take, All, Result, Ok, Err, IfErr, refl, sym, ap, subst, arith, take_all}
use Rattle.std.specs.List.{range_with_len}
use Rattle.std.proofs.lemmas.List.Elements.{All-weaker}
use Rattle.prof_bytes.specs.Number.{IsBytes}
use Rattle.prof_bytes.specs.Outcome.{◌>>=◌}
use Rattle.prof_bytes.proofs.Outcomes.{bind_ok, ok_same}
use Rattle.elf_image.specs.Image.{ProgramImage, bytes_of_name}
use Rattle.elf_image.specs.Reading.{image_of}
use Rattle.cfi_table.specs.Frames.{FrameDescription}
use Rattle.cfi_unwind.specs.Caller.{Unwinding}
use Rattle.cfi_unwind.specs.Path.{unwinding_of, path_of as unwound_by}
use Rattle.dwarf_info.specs.Units.{debug_info_of, unit_of}
use Rattle.dwarf_inline.specs.Structure.{structure_of}
use Rattle.dwarf_line.specs.declared.fault.LineFault.{LineFault}
use Rattle.dwarf_line.specs.Lines.{lines_at}
use Rattle.measure_file.specs.declared.fault.MeasureFault.{MeasureFault}
use Rattle.measure_file.specs.declared.head.EventHead.{EventHead}
use Rattle.measure_file.specs.Measurable.{AreMeasured, AreSampled, IsEventMeasurable}
use Rattle.measure_file.specs.Reading.{event_measurement_in}
use Rattle.measure_file.specs.Spelling.{event_measurement_spelling}
use Rattle.rv_run.specs.Run.{Run, run_of}
use Rattle.rv_run.specs.Schedule.{Scheduled}
use Rattle.rv_run.specs.State.{first_state}
use Rattle.sample_clock.specs.Samples.{Paths}
use Rattle.scope_find.specs.Found.{ProgramScopes, found_at}
use Rattle.scope_types.specs.declared.event.EventPeriod.{EventPeriod}
use Rattle.scope_types.specs.declared.frame.Counted.{Counted}
use Rattle.scope_types.specs.Distinct.{ColumnRaw, distinct, each_sample, frames_in, scopes_in}
use Rattle.scope_types.specs.Expansion.{call_path}
use Rattle.scope_types.specs.Columns.{columns_of}
use Rattle.scope_types.specs.Events.{AreEvents}
use Rattle.scope_types.specs.Limits.{most_frames_in_all, most_harts, most_scopes_in_all, most_samples}
use Rattle.command_line.specs.declared.status.InputFault.{InputFault}
use Rattle.command_line.specs.declared.status.InputFault.TheVariants.{Entries, Lines, Measurement, Program, Structure, TooManyFrames, TooManySamples, TooManyScopes, Trace, WrongProgram}
use Rattle.command_line.specs.Words.{most_period}
use Rattle.run_profile.specs.Attribution.{attributed}
use Rattle.hpc_laws.specs.Databases.{RunsStoreMeasurements}
use Rattle.command_line.specs.Faulted.{faulted}
use Rattle.program_run.specs.Measured.{Measured, measured, measured_run}
use Rattle.command_line.specs.declared.product.Product.{Product}
use Rattle.program_run.specs.Program.{frame_information, program, scheduled}
use Rattle.program_run.specs.Samples.{few_samples, run_columns, sampled, within_frames, within_samples}
use Rattle.run_profile.specs.Attribution.{within_scopes}
use Rattle.program_run.specs.Scopes.{debug_entries, debug_sections, debug_texts, line_tables, program_scopes, table_offsets}
use Rattle.command_line.specs.Kind.{program_limit}
use Rattle.hpc_top.specs.commands.Prof.{attributed_code, is_of_program, measurement, of_program, prof_product}
use Rattle.program_run.specs.commands.Run.{counted_in, head_of, measurement_of, run_product}
use Rattle.std.specs.Prelude.{codes}
use Rattle.program_run.proofs.Addresses.{IsOf, OfInstructions, PathsHaveFrames, PathsHaveWords, low_first, samples_frames, samples_own, samples_words, slices_of}
use Rattle.program_run.proofs.Collecting.{at_most, tested_ok}
use Rattle.hpc_laws.proofs.Scheduled.{entry_low, program_loaded, scheduled_own}

-- the parts of a program, and its run
pub record RunParts (elf input schedule : List ℕ) (events : List EventPeriod) (m : Measured) : Type 0 where
  pub slices : Scheduled
  pub image : ProgramImage
  pub described : List FrameDescription
  pub slices_is : scheduled schedule ≡ Ok slices
  pub program_is : program elf ≡ Ok image
  pub frames_is : frame_information image ≡ Ok described
  pub measured_is : measured image described slices input events ≡ Ok m

run_made : (elf input schedule : List ℕ) (events : List EventPeriod) (kept : Product) → run_product elf input schedule events ≡ Ok kept → (m : Measured) × (r : RunParts elf input schedule events m) × (measurement_of r.image m ≡ kept)
unfolding run_product
run_made elf input schedule events kept is =
    let slices = bind_ok (scheduled schedule) (λ slices. program elf >>= λ image. frame_information image >>= λ described. measured image described slices input events >>= λ m. Ok (measurement_of image m)) kept is in
    let image = bind_ok (program elf) (λ image. frame_information image >>= λ described. measured image described slices.0 input events >>= λ m. Ok (measurement_of image m)) kept slices.2 in
    let described = bind_ok (frame_information image.0) (λ described. measured image.0 described slices.0 input events >>= λ m. Ok (measurement_of image.0 m)) kept image.2 in
    let m = bind_ok (measured image.0 described.0 slices.0 input events) (λ m. Ok (measurement_of image.0 m)) kept described.2 in (
      m.0,
      record {
        slices = slices.0;
        image = image.0;
        described = described.0;
        slices_is = slices.1;
        program_is = image.1;
        frames_is = described.1;
        measured_is = m.1;
      },
      ok_same (measurement_of image.0 m.0) kept m.2,
    )

-- ---- what a measurement may hold

-- few samples are all samples
pub few_are : (columns : ℕ) (all samples : List ColumnRaw) → few_samples columns all ≡ Ok samples → (all ≡ samples) × (length all ≤ most_samples) × (frames_in (distinct columns all) ≤ most_frames_in_all)
few_are columns all samples is =
    let f = bind_ok (within_frames (distinct columns (take most_samples all))) (λ _. within_samples all) samples is in
    let frames = tested_ok (nat_lt most_frames_in_all (frames_in (distinct columns (take most_samples all)))) TooManyFrames (distinct columns (take most_samples all)) f.0 f.1 in
    let many = tested_ok (nat_lt most_samples (length all)) TooManySamples all samples f.2 in
    let few : length all ≤ most_samples = at_most most_samples (length all) many.0 in
    (many.1, few, subst (λ (l : List ColumnRaw). frames_in (distinct columns l) ≤ most_frames_in_all) (take_all most_samples all few) (at_most most_frames_in_all (frames_in (distinct columns (take most_samples all))) frames.0))

-- what is measured of a run are its few samples
pub measured_few : (path_of : Paths) (events : List EventPeriod) (harts : ℕ) (run : Run) (m : Measured) → measured_run path_of events harts run ≡ Ok m → (few_samples (run_columns events harts) (sampled path_of events run) ≡ Ok m.samples) × (m.harts ≡ harts) × (m.events ≡ events)
unfolding measured_run
measured_few path_of events harts run m is =
    let few = bind_ok (few_samples (run_columns events harts) (sampled path_of events run)) (λ samples. Ok (record { events = events; harts = harts; samples = samples; final = run.final })) m is in
    subst (λ (q : Measured). (few_samples (run_columns events harts) (sampled path_of events run) ≡ Ok q.samples) × (q.harts ≡ harts) × (q.events ≡ events)) (ok_same (record { events = events; harts = harts; samples = few.0; final = run.final }) m few.2) (few.1, refl, refl)

-- and its machine is the one at the end
pub measured_final : (path_of : Paths) (events : List EventPeriod) (harts : ℕ) (run : Run) (m : Measured) → measured_run path_of events harts run ≡ Ok m → m.final ≡ run.final
unfolding measured_run
measured_final path_of events harts run m is =
    let few = bind_ok (few_samples (run_columns events harts) (sampled path_of events run)) (λ samples. Ok (record { events = events; harts = harts; samples = samples; final = run.final })) m is in
    subst (λ (q : Measured). q.final ≡ run.final) (ok_same (record { events = events; harts = harts; samples = few.0; final = run.final }) m few.2) refl

-- the harts of a run, and its samples: within the limits of a profile, each of a column of the run, with a path of 1 to
-- 512 frames whose addresses have 32 bits
pub record AreTaken (events : List EventPeriod) (harts : ℕ) (samples : List ColumnRaw) : Type 0 where
  pub some : 1 ≤ harts
  pub few : harts ≤ most_harts
  pub sampled : AreSampled (run_columns events harts) samples

pub events_are : (elf input schedule : List ℕ) (events : List EventPeriod) (m : Measured) → RunParts elf input schedule events m → m.events ≡ events
events_are elf input schedule events m parts_of =
    (measured_few (unwound_by (unwinding_of parts_of.described parts_of.image)) events parts_of.slices.harts (run_of parts_of.image parts_of.slices input) m parts_of.measured_is).2

module _ (elf input schedule : List ℕ) (events : List EventPeriod) (m : Measured) (parts_of : RunParts elf input schedule events m) (bytes : IsBytes elf) where
  pub samples_taken : OfInstructions → PathsHaveFrames → PathsHaveWords → AreTaken m.events m.harts m.samples
  samples_taken each frames words =
      let harts : ℕ = parts_of.slices.harts in
      let run : Run = run_of parts_of.image parts_of.slices input in
      let u : Unwinding = unwinding_of parts_of.described parts_of.image in
      let all : List ColumnRaw = sampled (unwound_by u) events run in
      let own = scheduled_own schedule parts_of.slices parts_of.slices_is in
      let instants : All (IsOf harts) run.instants = slices_of harts parts_of.slices.slices (first_state parts_of.image harts input) own.slices (low_first parts_of.image.entry harts (range_with_len 0 harts) (entry_low elf parts_of.image parts_of.program_is bytes)) in
      let few_of = measured_few (unwound_by u) events harts run m parts_of.measured_is in
      let few = few_are (run_columns events harts) all m.samples few_of.0 in
      let taken : AreTaken events harts all = record {
        some = own.some;
        few = own.few;
        sampled = record {
          own = samples_own each u events harts run instants;
          paths = samples_frames each u events harts run instants frames;
          addresses = samples_words each u events harts run instants words;
          sampled = few.1;
          frames = few.2;
        };
      } in
      subst (λ (es : List EventPeriod). AreTaken es m.harts m.samples) (sym few_of.2)
      (subst (λ (n : ℕ). AreTaken events n m.samples) (sym few_of.1) (subst (AreTaken events harts) few.0 taken))

  -- what is measured can be written
  pub run_measurable : AreEvents events → All (λ e. e.period ≤ most_period) events → length elf ≤ program_limit → AreTaken m.events m.harts m.samples → length (counted_in m) ≡ run_columns m.events m.harts → AreMeasured (counted_in m) → IsEventMeasurable (head_of parts_of.image m) (counted_in m)
  run_measurable are most short taken long counts =
      let same : m.events ≡ events = events_are elf input schedule events m parts_of in
      let small : All (λ e. e.period < 2 ^ 32) events = All-weaker (λ (e : EventPeriod). e.period ≤ most_period) (λ (e : EventPeriod). e.period < 2 ^ 32) (λ e le. omega (arith, le)) events most in
      record {
        length = subst (λ (q : ProgramImage). length q.file < 2 ^ 32) (program_loaded elf parts_of.image parts_of.program_is) (let l : length elf < 2 ^ 32 = omega (arith, short) in l);
        entry = entry_low elf parts_of.image parts_of.program_is bytes;
        some = taken.some;
        few = taken.few;
        events = subst AreEvents (sym same) are;
        periods = subst (λ (es : List EventPeriod). All (λ e. e.period < 2 ^ 32) es) (sym same) small;
        columns = long;
        counts = counts;
      }

-- ---- what `prof` refuses in place of a measurement, and `timeline` in place of a trace

abbrev pub IsOther : InputFault → Type 0
IsOther (Measurement offset) = ⊥
IsOther (Trace offset) = ⊥
IsOther fault = Unit {0}

pub other_then : {X Y : Type 0} (first : Result X InputFault) (next : X → Result Y InputFault) → IfErr first IsOther → ((x : X) → IfErr (next x) IsOther) → IfErr (first >>= next) IsOther
other_then (Ok x) next a b = b x
other_then (Err fault) next a b = a

pub other_faulted : {X F : Type 0} (fault : F → InputFault) → ((f : F) → IsOther (fault f)) → (read : Result X F) → IfErr (faulted fault read) IsOther
other_faulted fault is (Ok x) = tt
other_faulted fault is (Err f) = is f

pub other_scopes : (image : ProgramImage) → IfErr (program_scopes image) IsOther
unfolding program_scopes
other_scopes image =
    other_then (debug_entries image) _ (other_faulted Entries (λ f. tt) (debug_info_of (debug_sections image))) (λ info.
    other_then (line_tables image (table_offsets (map unit_of info.units))) _
    (other_faulted (λ (f : LineFault). Lines f.offset) (λ f. tt) (lines_at (bytes_of_name image.sections (codes ".debug_line")) (debug_texts image) image.segments (table_offsets (map unit_of info.units)))) (λ lines.
    other_then (faulted Structure (structure_of info lines image)) _ (other_faulted Structure (λ f. tt) (structure_of info lines image)) (λ structure. tt)))

other_many : (samples : List ColumnRaw) (many : Bool) → IfErr (let r : Result (List ColumnRaw) InputFault = cond many (Err TooManyScopes) (Ok samples) in r) IsOther
other_many samples true = tt
other_many samples false = tt

other_attributed : (scopes : ProgramScopes) (events : List EventPeriod) (runs : List ℕ) (samples : List ColumnRaw) → IfErr (attributed scopes events runs samples) IsOther
other_attributed scopes events runs samples =
    other_then (within_scopes (call_path (found_at scopes)) (columns_of (length events) runs) samples) _ (other_many samples (nat_lt most_scopes_in_all (scopes_in (call_path (found_at scopes)) (distinct (columns_of (length events) runs) samples)))) (λ _. tt)

other_code : (image : ProgramImage) (events : List EventPeriod) (runs : List ℕ) (tables : List (List Counted)) → IfErr (attributed_code image events runs tables) IsOther
other_code image events runs tables =
    other_then (program_scopes image) _ (other_scopes image) (λ scopes.
    other_then (attributed scopes events runs (each_sample tables)) _ (other_attributed scopes events runs (each_sample tables)) (λ a. tt))

other_program : (image : ProgramImage) (head : EventHead) → IfErr (of_program image head) IsOther
other_program image head =
    elim (is_of_program image head) as (λ b. IfErr (let r : Result EventHead InputFault = cond b (Ok head) (Err (WrongProgram head.length head.entry (length image.file) image.entry)) in r) IsOther) [
      | true ↦ tt
      | false ↦ tt
    ]

other_prof : (elf bytes : List ℕ) (head : EventHead) (tables : List (List Counted)) → measurement bytes ≡ Ok (head, tables) → IfErr (prof_product elf bytes) IsOther
unfolding prof_product
other_prof elf bytes head tables is =
    subst (λ (r : Result (EventHead × List (List Counted)) InputFault). IfErr (r >>= λ (head, tables). program elf >>= λ image. of_program image head >>= λ head. attributed_code image head.events (head.harts ∷ []) tables) IsOther) (sym is)
    (other_then (program elf) _ (other_faulted Program (λ f. tt) (image_of elf)) (λ image.
    other_then (of_program image head) _ (other_program image head) (λ own. other_code image own.events (own.harts ∷ []) tables)))

-- ---- what `run` stores

-- what measure_file's laws say
abbrev pub Written : Type 0
Written = (head : EventHead) (tables : List (List Counted)) → IsEventMeasurable head tables → event_measurement_in (event_measurement_spelling head tables) ≡ Ok (head, tables)

abbrev pub Countable : Type 0
Countable = (columns : ℕ) (samples : List ColumnRaw) → AreSampled columns samples → AreMeasured (distinct columns samples)

-- and thread_cct's
abbrev pub EachColumn : Type 0
EachColumn = (columns : ℕ) (samples : List ColumnRaw) → length (distinct columns samples) ≡ columns

pub stores_measurement : OfInstructions → PathsHaveFrames → PathsHaveWords → Written → Countable → EachColumn → RunsStoreMeasurements
stores_measurement each frames words written countable long elf input schedule events kept bytes short are most is =
    let made = run_made elf input schedule events kept is in
    let m : Measured = made.0 in
    let r : RunParts elf input schedule events m = made.1 in
    let head : EventHead = head_of r.image m in
    let tables : List (List Counted) = counted_in m in
    let taken : AreTaken m.events m.harts m.samples = samples_taken elf input schedule events m r bytes each frames words in
    let counts : AreMeasured (counted_in m) = countable (run_columns m.events m.harts) m.samples taken.sampled in
    let sound : IsEventMeasurable (head_of r.image m) (counted_in m) = run_measurable elf input schedule events m r bytes are most short taken (long (run_columns m.events m.harts) m.samples) counts in
    let read : event_measurement_in (event_measurement_spelling head tables) ≡ Ok (head, tables) = written head tables sound in
    let own : measurement (measurement_of r.image m).stored ≡ Ok (head, tables) = ap (λ (q : Result (EventHead × List (List Counted)) MeasureFault). faulted (λ fault. Measurement fault.offset) q) read in
    let stored : measurement kept.stored ≡ Ok (head, tables) = subst (λ (k : Product). measurement k.stored ≡ Ok (head, tables)) made.2 own in
    record {
      image = r.image;
      read = r.program_is;
      run = m;
      own_events = events_are elf input schedule events m r;
      measured = stored;
      accepted = λ other offset e. subst (λ (q : Result Product InputFault). IfErr q IsOther) e (other_prof other kept.stored head tables stored);
    }
