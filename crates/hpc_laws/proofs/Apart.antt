-- A profile made by a run that is measured and the attribution of its measurement.
use Rattle.std.proofs.Common.{◌≡◌, ℕ, ◌<◌, ◌==◌, ◌&&◌, nat_lt, Bool, true, false, cond, if◌then◌else◌, List, [], ◌∷◌, ◌++◌, length, map, sum, All, Result, Ok, Err, refl, sym, ap, ap₂, subst, ◌∙◌, append-nil, arith}
use Rattle.std.specs.List.{enumerate_from, flat_map}
use Rattle.std.proofs.lemmas.Bool.Decides.{nat_tests}
use Rattle.prof_bytes.specs.Outcome.{◌>>=◌}
use Rattle.prof_bytes.proofs.Outcomes.{bind_ok, ok_same}
use Rattle.elf_image.specs.Image.{ProgramImage}
use Rattle.cfi_table.specs.Frames.{FrameDescription}
use Rattle.measure_file.specs.declared.fault.MeasureFault.{MeasureFault}
use Rattle.measure_file.specs.declared.head.EventHead.{EventHead}
use Rattle.measure_file.specs.Measurable.{AreMeasured}
use Rattle.measure_file.specs.Reading.{event_measurement_in}
use Rattle.prof_db.specs.Spelling.{events_spelling}
use Rattle.rv_run.specs.Schedule.{Scheduled}
use Rattle.scope_find.specs.Found.{ProgramScopes, found_at, naming_of}
use Rattle.scope_types.specs.declared.event.EventPeriod.{EventPeriod}
use Rattle.scope_types.specs.declared.frame.Counted.{Counted}
use Rattle.scope_types.specs.declared.scope.Scope.{Scope}
use Rattle.scope_types.specs.Alike.{Alike}
use Rattle.scope_types.specs.CallPaths.{ColumnPath}
use Rattle.run_report.specs.Report.{event_line, event_lines, line_of_event, samples_by_event}
use Rattle.scope_types.specs.Columns.{columns_of, paths_of_event, place_of_column}
use Rattle.scope_types.specs.Distinct.{ColumnRaw, distinct, each_sample, scopes_in}
use Rattle.scope_types.specs.Events.{is_retired_alone}
use Rattle.scope_types.specs.Expansion.{call_path}
use Rattle.scope_types.specs.Limits.{most_scopes_in_all}
use Rattle.scope_types.specs.Raw.{Raw}
use Rattle.command_line.specs.declared.status.InputFault.{InputFault}
use Rattle.command_line.specs.declared.status.InputFault.TheVariants.{Measurement, WrongProgram}
use Rattle.hpc_laws.specs.Apart.{IsApart, RunThenProf}
use Rattle.run_profile.specs.Attribution.{Attributed, attributed, attribution_of, call_paths_of, event_content, event_tables, table_of_event}
use Rattle.command_line.specs.Faulted.{faulted}
use Rattle.program_run.specs.Measured.{Measured, lines_of, measured}
use Rattle.program_run.specs.Program.{frame_information, program, scheduled}
use Rattle.program_run.specs.Samples.{run_columns}
use Rattle.run_profile.specs.Attribution.{sample_path}
use Rattle.program_run.specs.Scopes.{program_scopes}
use Rattle.hpc_top.specs.commands.Prof.{attributed_code, of_program, prof_product}
use Rattle.hpc_top.specs.commands.Profile.{Profiled, product_of, profile_of, profiled, profiled_of, profiled_program}
use Rattle.program_run.specs.commands.Run.{counted_in, head_of, measurement_of, run_product}
use Rattle.program_run.proofs.RunColumns.{own_columns}
use Rattle.hpc_laws.proofs.FlatTables.{count_mapped}
use Rattle.run_profile.proofs.Products.{ContentsAlike, EventsAlike, TablesAlike, attributed_as, by_scopes}
use Rattle.program_run.proofs.Addresses.{OfInstructions, PathsHaveFrames, PathsHaveWords}
use Rattle.hpc_laws.proofs.Ran.{AreTaken, Countable, EachColumn, RunParts, Written, events_are, run_measurable, samples_taken}

pub same_number : (n : ℕ) → (n == n) ≡ true
same_number n = grind (arith, nat_tests)

-- ---- what a profile that is accepted was made of

-- the parts of a program, its run, and the samples' scopes
pub record Parts (elf input schedule : List ℕ) (events : List EventPeriod) (p : Profiled) : Type 0 where
  pub slices : Scheduled
  pub image : ProgramImage
  pub described : List FrameDescription
  pub scopes : ProgramScopes
  pub slices_is : scheduled schedule ≡ Ok slices
  pub program_is : program elf ≡ Ok image
  pub frames_is : frame_information image ≡ Ok described
  pub scopes_is : program_scopes image ≡ Ok scopes
  pub measured_is : measured image described slices input events ≡ Ok p.measured
  pub attributed_is : attributed scopes p.measured.events (p.measured.harts ∷ []) p.measured.samples ≡ Ok p.attributed

pub parts : (elf input schedule : List ℕ) (events : List EventPeriod) (p : Profiled) → profiled_of elf input schedule events ≡ Ok p → Parts elf input schedule events p
unfolding profiled_of
parts elf input schedule events p is =
    let slices = bind_ok (scheduled schedule) (λ slices. program elf >>= λ image. frame_information image >>= λ described. program_scopes image >>= λ scopes. profiled_program image described scopes slices input events) p is in
    let image = bind_ok (program elf) (λ image. frame_information image >>= λ described. program_scopes image >>= λ scopes. profiled_program image described scopes slices.0 input events) p slices.2 in
    let described = bind_ok (frame_information image.0) (λ described. program_scopes image.0 >>= λ scopes. profiled_program image.0 described scopes slices.0 input events) p image.2 in
    let scopes = bind_ok (program_scopes image.0) (λ scopes. profiled_program image.0 described.0 scopes slices.0 input events) p described.2 in
    let m = bind_ok (measured image.0 described.0 slices.0 input events) (λ m. profiled scopes.0 m) p scopes.2 in
    let a = bind_ok (attributed scopes.0 m.0.events (m.0.harts ∷ []) m.0.samples) (λ a. Ok (record { measured = m.0; attributed = a })) p m.2 in
    subst (Parts elf input schedule events) (ok_same (record { measured = m.0; attributed = a.0 }) p a.2)
    (record {
      slices = slices.0;
      image = image.0;
      described = described.0;
      scopes = scopes.0;
      slices_is = slices.1;
      program_is = image.1;
      frames_is = described.1;
      scopes_is = scopes.1;
      measured_is = m.1;
      attributed_is = a.1;
    })

-- ---- the two commands

abbrev of_another : ProgramImage → Result EventHead InputFault
of_another image = Err (WrongProgram (length image.file) image.entry (length image.file) image.entry)

-- ---- the lines and tables of alike samples

-- samples that count the same, with their call paths
pub record CountSame (expand : Raw → List Scope) (xs ys : List ColumnRaw) : Type 0 where
  pub paths : Alike (map (sample_path expand) xs) (map (sample_path expand) ys)
  pub places : (events place : ℕ) → samples_by_event events xs place ≡ samples_by_event events ys place

pub tables_same : TablesAlike → EventsAlike → (scopes : ProgramScopes) (events : List EventPeriod) (runs : List ℕ) (xs ys : List ColumnRaw) → CountSame (call_path (found_at scopes)) xs ys
    → event_tables (record { scopes = scopes; events = events; runs = runs; samples = xs }) (map (sample_path (call_path (found_at scopes))) xs)
    ≡ event_tables (record { scopes = scopes; events = events; runs = runs; samples = ys }) (map (sample_path (call_path (found_at scopes))) ys)
tables_same tables each scopes events runs xs ys same =
    let ps : List ColumnPath = map (sample_path (call_path (found_at scopes))) xs in
    let qs : List ColumnPath = map (sample_path (call_path (found_at scopes))) ys in
    let line : (numbered : ℕ × EventPeriod) → line_of_event events xs numbered ≡ line_of_event events ys numbered =
    λ numbered. ap (λ (n : ℕ). if is_retired_alone events then [] else event_line numbered.1 n) (same.places (length events) numbered.0) in
    let table : (numbered : ℕ × EventPeriod) → table_of_event (record { scopes = scopes; events = events; runs = runs; samples = xs }) ps numbered ≡ table_of_event (record { scopes = scopes; events = events; runs = runs; samples = ys }) qs numbered =
    λ numbered. tables numbered.1.period (sum runs) (naming_of scopes) (paths_of_event (length events) numbered.0 ps) (paths_of_event (length events) numbered.0 qs) (each (length events) numbered.0 ps qs same.paths) in
    λ i. flat_map (λ numbered. line numbered i ++ table numbered i) (enumerate_from 0 events)

-- where retired is the only event, there is no line
no_lines : (events : List EventPeriod) (samples : List ColumnRaw) → is_retired_alone events ≡ true → event_lines events samples ≡ []
no_lines [] samples alone = absurd cc
no_lines (e ∷ []) samples alone = ap (λ (b : Bool). (if b then [] else event_line e (samples_by_event 1 samples 0)) ++ []) alone
no_lines (e ∷ f ∷ rest) samples alone = absurd cc

-- ---- a run and its measurement

module _ (elf input schedule : List ℕ) (events : List EventPeriod) (p : Profiled) (parts_of : Parts elf input schedule events p) where
  abbrev pub run_parts : RunParts elf input schedule events p.measured
  run_parts = record {
    slices = parts_of.slices;
    image = parts_of.image;
    described = parts_of.described;
    slices_is = parts_of.slices_is;
    program_is = parts_of.program_is;
    frames_is = parts_of.frames_is;
    measured_is = parts_of.measured_is;
  }

  abbrev m : Measured
  m = p.measured

  run_is : run_product elf input schedule events ≡ Ok (measurement_of parts_of.image m)
  unfolding run_product
  run_is =
      ap (λ (r : Result Scheduled InputFault). r >>= λ slices. program elf >>= λ image. frame_information image >>= λ described. measured image described slices input events >>= λ m. Ok (measurement_of image m)) parts_of.slices_is
      ∙ ap (λ (r : Result ProgramImage InputFault). r >>= λ image. frame_information image >>= λ described. measured image described parts_of.slices input events >>= λ m. Ok (measurement_of image m)) parts_of.program_is
      ∙ ap (λ (r : Result (List FrameDescription) InputFault). r >>= λ described. measured parts_of.image described parts_of.slices input events >>= λ m. Ok (measurement_of parts_of.image m)) parts_of.frames_is
      ∙ ap (λ (r : Result Measured InputFault). r >>= λ m. Ok (measurement_of parts_of.image m)) parts_of.measured_is

  abbrev tables : List (List Counted)
  tables = counted_in m

  abbrev again : Attributed
  again = record { scopes = parts_of.scopes; events = m.events; runs = m.harts ∷ []; samples = each_sample tables }

  -- what was attributed
  abbrev whole : Attributed
  whole = record { scopes = parts_of.scopes; events = m.events; runs = m.harts ∷ []; samples = m.samples }

  own : whole ≡ p.attributed
  own = sym (attributed_as parts_of.scopes m.events (m.harts ∷ []) m.samples p.attributed parts_of.attributed_is)

  own_program : of_program parts_of.image (head_of parts_of.image m) ≡ Ok (head_of parts_of.image m)
  own_program =
      ap (λ (b : Bool). cond b (Ok (head_of parts_of.image m)) (of_another parts_of.image)) (ap₂ (λ (a b : Bool). a && b) (same_number (length parts_of.image.file)) (same_number parts_of.image.entry))

  -- the measurement's paths, counted again, are the run's
  module _ (long : length (counted_in m) ≡ run_columns m.events m.harts) (same : distinct (length (counted_in m)) (each_sample (counted_in m)) ≡ counted_in m) where
    counts_again : tables ≡ distinct (columns_of (length m.events) (m.harts ∷ [])) (each_sample tables)
    counts_again = sym same ∙ ap (λ (n : ℕ). distinct n (each_sample tables)) (long ∙ sym (own_columns m.events m.harts))

    counts_own : tables ≡ distinct (columns_of (length m.events) (m.harts ∷ [])) m.samples
    counts_own = ap (λ (n : ℕ). distinct n m.samples) (sym (own_columns m.events m.harts))

    -- the scopes are as few as those of the samples
    few_scopes_again : attributed parts_of.scopes m.events (m.harts ∷ []) (each_sample tables) ≡ Ok again
    few_scopes_again = tested (nat_lt most_scopes_in_all (scopes_in (call_path (found_at parts_of.scopes)) tables)) refl
      where
        tested : (many : Bool) → nat_lt most_scopes_in_all (scopes_in (call_path (found_at parts_of.scopes)) tables) ≡ many → attributed parts_of.scopes m.events (m.harts ∷ []) (each_sample tables) ≡ Ok again
        tested true is = (let e = sym (by_scopes parts_of.scopes m.events (m.harts ∷ []) tables m.samples counts_own true is) ∙ parts_of.attributed_is in absurd cc)
        tested false is = by_scopes parts_of.scopes m.events (m.harts ∷ []) tables (each_sample tables) counts_again false is

    prof_is : (bytes : List ℕ) → event_measurement_in bytes ≡ Ok (head_of parts_of.image m, tables) → prof_product elf bytes ≡ Ok (attribution_of again)
    unfolding prof_product
    prof_is bytes read =
        ap (λ (r : Result (EventHead × List (List Counted)) MeasureFault). faulted (λ fault. Measurement fault.offset) r >>= λ (head, tables). program elf >>= λ image. of_program image head >>= λ head. attributed_code image head.events (head.harts ∷ []) tables) read
        ∙ ap (λ (r : Result ProgramImage InputFault). r >>= λ image. of_program image (head_of parts_of.image m) >>= λ head. attributed_code image head.events (head.harts ∷ []) tables) parts_of.program_is
        ∙ ap (λ (r : Result EventHead InputFault). r >>= λ head. attributed_code parts_of.image head.events (head.harts ∷ []) tables) own_program
        ∙ ap (λ (r : Result ProgramScopes InputFault). r >>= λ scopes. attributed scopes m.events (m.harts ∷ []) (each_sample tables) >>= λ a. Ok (attribution_of a)) parts_of.scopes_is
        ∙ ap (λ (r : Result Attributed InputFault). r >>= λ a. Ok (attribution_of a)) few_scopes_again

    -- ---- both together

    module _ (contents : ContentsAlike) (tables_alike : TablesAlike) (each : EventsAlike) (count_same : CountSame (call_path (found_at parts_of.scopes)) (each_sample (counted_in m)) m.samples) where
      content_same : event_content again (call_paths_of again) ≡ event_content p.attributed (call_paths_of p.attributed)
      content_same =
          contents m.events (m.harts ∷ []) (naming_of parts_of.scopes) (call_paths_of again) (call_paths_of whole) count_same.paths
          ∙ ap (λ (a : Attributed). event_content a (call_paths_of a)) own

      table_same : event_tables again (call_paths_of again) ≡ event_tables p.attributed (call_paths_of p.attributed)
      table_same =
          tables_same tables_alike each parts_of.scopes m.events (m.harts ∷ []) (each_sample tables) m.samples count_same
          ∙ ap (λ (a : Attributed). event_tables a (call_paths_of a)) own

      both : event_measurement_in (measurement_of parts_of.image m).stored ≡ Ok (head_of parts_of.image m, tables) → IsApart elf input schedule events (product_of p)
      both read =
          let text : (product_of p).text ≡ lines_of m ++ (attribution_of again).text = ap (λ (text : List ℕ). lines_of m ++ text) (sym table_same) in
          record {
            image = parts_of.image;
            measured = m;
            run = run_is;
            tables = attribution_of again;
            prof = prof_is (measurement_of parts_of.image m).stored read;
            stored = ap events_spelling content_same;
            text = text;
            alone = λ alone.
                text ∙ ap (λ (lines : List ℕ). lines ++ (attribution_of again).text)
                (sym (append-nil (lines_of m)) ∙ ap (λ (lines : List ℕ). lines_of m ++ lines) (sym (no_lines m.events m.samples (ap is_retired_alone (events_are elf input schedule events m run_parts) ∙ alone))));
          }

-- what the laws of counted samples say
abbrev pub CountedAgain : Type 0
CountedAgain = (tables : List (List Counted)) → AreMeasured tables → distinct (length tables) (each_sample tables) ≡ tables

abbrev pub SamplesAlike : Type 0
SamplesAlike = (columns : ℕ) (samples : List ColumnRaw) (call_path : ColumnRaw → ColumnPath) → All (λ s. s.column < columns) samples → Alike (map call_path (each_sample (distinct columns samples))) (map call_path samples)

-- samples that are counted, and taken up again, count the same
pub counted_same : SamplesAlike → (expand : Raw → List Scope) (columns : ℕ) (samples : List ColumnRaw) → All (λ s. s.column < columns) samples → CountSame expand (each_sample (distinct columns samples)) samples
counted_same samples_alike expand columns samples own =
    let plain : ColumnRaw → ColumnPath = λ s. record { column = s.column; path = [] } in
    let again : List ColumnRaw = each_sample (distinct columns samples) in
    record {
      paths = samples_alike columns samples (sample_path expand) own;
      places = λ events place.
          let test : ColumnPath → Bool = λ p. place_of_column events p.column == place in
          sym (count_mapped test plain again) ∙ (samples_alike columns samples plain own).same test ∙ count_mapped test plain samples;
    }

pub apart : OfInstructions → PathsHaveFrames → PathsHaveWords → Written → Countable → CountedAgain → EachColumn → SamplesAlike → ContentsAlike → TablesAlike → EventsAlike → RunThenProf
unfolding profile_of
apart instructions frames words written countable counted_again each_column samples_alike contents tables_alike each elf input schedule events whole bytes short are most is =
    let p = bind_ok (profiled_of elf input schedule events) (λ p. Ok (product_of p)) whole is in
    let made = parts elf input schedule events p.0 p.1 in
    let m : Measured = p.0.measured in
    let expand : Raw → List Scope = call_path (found_at made.scopes) in
    let parts_of : RunParts elf input schedule events p.0.measured = run_parts elf input schedule events p.0 made in
    let taken : AreTaken m.events m.harts m.samples = samples_taken elf input schedule events p.0.measured parts_of bytes instructions frames words in
    let counts : AreMeasured (counted_in m) = countable (run_columns m.events m.harts) m.samples taken.sampled in
    let long : length (counted_in m) ≡ run_columns m.events m.harts = each_column (run_columns m.events m.harts) m.samples in
    subst (IsApart elf input schedule events) (ok_same (product_of p.0) whole p.2)
    (both elf input schedule events p.0 made long (counted_again (counted_in m) counts) contents tables_alike each (counted_same samples_alike expand (run_columns m.events m.harts) m.samples taken.sampled.own)
    (written (head_of made.image m) (counted_in m) (run_measurable elf input schedule events p.0.measured parts_of bytes are most short taken long counts)))
