-- The call paths of samples that are accepted are stored, and so their database is read as what it was made of.
use Rattle.std.proofs.Common.{◌≡◌, ℕ, ◌+◌, ◌<◌, ◌≤◌, nat_lt, Bool, true, false, cond, List, [], ◌∷◌, length, get_or, map, replicate, sum, All, Option, Result, Ok, Err, refl, sym, ap, subst, ◌∙◌, arith}
use Rattle.std.specs.List.{enumerate_from, flat_map}
use Rattle.std.proofs.lemmas.List.{length-map}
use Rattle.std.proofs.lemmas.List.Elements.{All-append, All-head, All-map, All-nil, All-replicate, All-tail, All-weaker}
use Rattle.prof_bytes.specs.Number.{IsBytes}
use Rattle.prof_bytes.specs.Outcome.{◌>>=◌}
use Rattle.prof_bytes.proofs.Outcomes.{bind_ok, ok_same}
use Rattle.measure_file.specs.declared.fault.MeasureFault.{MeasureFault}
use Rattle.measure_file.specs.declared.head.EventHead.{EventHead}
use Rattle.measure_file.specs.Measurable.{AreMeasured, AreSampled, HasWord, IsCounted, IsEventMeasurable}
use Rattle.measure_file.specs.Reading.{event_measurement_in}
use Rattle.prof_db.specs.declared.fault.DbFault.{DbFault}
use Rattle.prof_db.specs.Rules.{events_in}
use Rattle.prof_db.specs.Spelling.{events_spelling}
use Rattle.prof_db.specs.Stored.{AreEventsStored, HasWordNumbers, IsWord, is_call_path}
use Rattle.scope_find.specs.Found.{ProgramScopes, found_at, naming_of}
use Rattle.hpc_laws.proofs.SmallNumbers.{AreScopesOf}
use Rattle.scope_types.specs.declared.event.Event.{Event}
use Rattle.scope_types.specs.declared.event.EventPeriod.{EventPeriod}
use Rattle.scope_types.specs.declared.frame.Counted.{Counted}
use Rattle.scope_types.specs.declared.scope.Scope.{Scope}
use Rattle.scope_types.specs.CallPaths.{ColumnPath}
use Rattle.scope_types.specs.Columns.{columns_of, paths_of_event}
use Rattle.scope_types.specs.Distinct.{ColumnRaw, distinct, each_of_column, each_sample, frames_in, samples_in, scopes_in}
use Rattle.scope_types.specs.Events.{AreEvents}
use Rattle.scope_types.specs.Expansion.{FoundAt, call_path}
use Rattle.scope_types.specs.Limits.{most_frames_in_all, most_scopes_in_all}
use Rattle.scope_types.specs.Raw.{HasFrames, Raw}
use Rattle.tree_types.specs.declared.content.EventContent.{EventContent}
use Rattle.tree_types.specs.Database.{event_content_of, period_at}
use Rattle.tree_types.specs.Naming.{Naming}
use Rattle.command_line.specs.Words.{most_period}
use Rattle.command_line.specs.declared.request.ViewTable.{ViewTable}
use Rattle.command_line.specs.declared.status.InputFault.{InputFault}
use Rattle.command_line.specs.declared.status.InputFault.TheVariants.{Database, Measurement, WrongProgram}
use Rattle.run_profile.specs.Attribution.{Attributed, attributed, attribution_of}
use Rattle.hpc_laws.specs.Databases.{IsDatabaseOf, ProfilesStoreDatabases, ProfsStoreDatabases}
use Rattle.command_line.specs.Faulted.{faulted}
use Rattle.program_run.specs.Measured.{Measured}
use Rattle.command_line.specs.declared.product.Product.{Product}
use Rattle.program_run.specs.Program.{program}
use Rattle.run_profile.specs.Attribution.{sample_path}
use Rattle.run_profile.specs.Merging.{AreRuns}
use Rattle.program_run.specs.Scopes.{program_scopes}
use Rattle.hpc_top.specs.commands.Prof.{attributed_code, is_of_program, measurement, of_program, prof_product}
use Rattle.hpc_top.specs.commands.Profile.{product_of, profile_of, profiled_of}
use Rattle.prof_stats.specs.StatsTable.{table_of_paths as summaries_of_paths}
use Rattle.tree_types.specs.declared.content.Kind.{Kind}
use Rattle.run_profile.specs.commands.Stats.{stats_product}
use Rattle.run_profile.specs.commands.View.{shown_at, table_of_paths, view_product}
use Rattle.program_run.proofs.Addresses.{OfInstructions, PathsHaveFrames, PathsHaveWords}
use Rattle.hpc_laws.proofs.Apart.{Parts, SamplesAlike, parts, run_parts}
use Rattle.program_run.proofs.Collecting.{at_most}
use Rattle.command_line.proofs.Faults.{from_faulted}
use Rattle.hpc_laws.proofs.FoundNumbers.{found_numbers, names_short}
use Rattle.hpc_laws.proofs.FewNodes.{NodesAlike, NodesFew, few_nodes}
use Rattle.hpc_laws.proofs.PathNumbers.{path_small}
use Rattle.run_profile.proofs.Products.{attributed_as, scopes_decide}
use Rattle.run_profile.proofs.FewRuns.{one_of_runs}
use Rattle.program_run.proofs.RunColumns.{own_columns}
use Rattle.hpc_laws.proofs.Ran.{AreTaken, RunParts, events_are, samples_taken}
use Rattle.hpc_laws.proofs.ScopesRead.{scopes_read}

-- what the laws of databases, of call paths and of nodes say
pub record StoredLaws : Type 0 where
  pub shown : (table : ViewTable) (event : Option Event) (events : List EventPeriod) (runs : List ℕ) (naming : Naming) (paths : List ColumnPath) → AreEventsStored events runs naming paths
      → view_product table event (events_spelling (event_content_of events runs naming paths))
      ≡ shown_at event events (λ place. table_of_paths table (period_at events place) (sum runs) naming (paths_of_event (length events) place paths))
  pub summed : (kind : Kind) (event : Option Event) (events : List EventPeriod) (runs : List ℕ) (naming : Naming) (paths : List ColumnPath) → AreEventsStored events runs naming paths
      → stats_product kind event (events_spelling (event_content_of events runs naming paths))
      ≡ shown_at event events (λ place. summaries_of_paths (period_at events place) (sum runs) naming (paths_of_event (length events) place paths) kind)
  pub read : (events : List EventPeriod) (runs : List ℕ) (naming : Naming) (paths : List ColumnPath) → AreEventsStored events runs naming paths
      → events_in (events_spelling (event_content_of events runs naming paths)) ≡ Ok (event_content_of events runs naming paths)
  pub call_paths : (found_at : ℕ → FoundAt) (raw : Raw) → 0 < length raw.frames → is_call_path (call_path found_at raw) ≡ true
  pub samples_alike : SamplesAlike
  pub nodes_alike : NodesAlike
  pub nodes_few : NodesFew

-- ---- samples that are accepted

pub few_scopes : (scopes : ProgramScopes) (events : List EventPeriod) (runs : List ℕ) (samples : List ColumnRaw) (a : Attributed) → attributed scopes events runs samples ≡ Ok a → scopes_in (call_path (found_at scopes)) (distinct (columns_of (length events) runs) samples) ≤ most_scopes_in_all
few_scopes scopes events runs samples a is = tested (nat_lt most_scopes_in_all (scopes_in (call_path (found_at scopes)) (distinct (columns_of (length events) runs) samples))) refl is
  where
    tested : (many : Bool) → nat_lt most_scopes_in_all (scopes_in (call_path (found_at scopes)) (distinct (columns_of (length events) runs) samples)) ≡ many → scopes_decide scopes events runs samples many ≡ Ok a
        → scopes_in (call_path (found_at scopes)) (distinct (columns_of (length events) runs) samples) ≤ most_scopes_in_all
    tested true many e = absurd cc
    tested false many e = at_most most_scopes_in_all (scopes_in (call_path (found_at scopes)) (distinct (columns_of (length events) runs) samples)) many

module _ (laws : StoredLaws) (events : List EventPeriod) (are : AreEvents events) (small : All (λ e. IsWord e.period) events) (elf : List ℕ) (scopes : ProgramScopes) (of : AreScopesOf elf scopes) where
  abbrev expand : Raw → List Scope
  expand = call_path (found_at scopes)

  module _ (runs : List ℕ) (are_runs : AreRuns runs) (samples : List ColumnRaw) (taken : AreSampled (columns_of (length events) runs) samples) (few : scopes_in expand (distinct (columns_of (length events) runs) samples) ≤ most_scopes_in_all) where
    abbrev paths : List ColumnPath
    paths = map (sample_path expand) samples

    are_stored : AreEventsStored events runs (naming_of scopes) paths
    are_stored =
        let naming = names_short elf scopes of in
        let nodes = few_nodes expand laws.samples_alike laws.nodes_alike laws.nodes_few (columns_of (length events) runs) samples taken.own in
        let long = length-map samples (sample_path expand) in
        let most = taken.sampled in
        record {
          are_events = are;
          small_periods = small;
          some_runs = are_runs.some;
          few_runs = are_runs.few;
          harts = are_runs.harts;
          below = All-map (λ (p : ColumnPath). p.column < columns_of (length events) runs) (sample_path expand) samples taken.own;
          few_samples = omega (arith, long, most);
          few_nodes = omega (arith, nodes, few);
          call_paths = All-map (λ (p : ColumnPath). is_call_path p.path ≡ true) (sample_path expand) samples
              (λ k d lt. laws.call_paths (found_at scopes) (get_or samples k d).raw (let frames = (taken.paths k d lt).some in omega (arith, frames)));
          scopes = All-map (λ (p : ColumnPath). All HasWordNumbers p.path) (sample_path expand) samples
              (λ k d lt. path_small (found_at scopes) (λ address low. found_numbers elf scopes of address low) (get_or samples k d).raw (taken.addresses k d lt));
          procs = naming.procs;
          nameless = naming.nameless;
          files = naming.files;
        }

    database_of : IsDatabaseOf (record { scopes = scopes; events = events; runs = runs; samples = samples }) (events_spelling (event_content_of events runs (naming_of scopes) paths))
    database_of = record {
      read = ap (λ (r : Result EventContent DbFault). faulted (λ fault. Database fault.offset fault.rule) r) (laws.read events runs (naming_of scopes) paths are_stored);
      shown = λ table event. laws.shown table event events runs (naming_of scopes) paths are_stored;
      summed = λ kind event. laws.summed kind event events runs (naming_of scopes) paths are_stored;
    }

  -- and so is what was attributed of them
  pub database_attributed : (runs : List ℕ) → AreRuns runs → (samples : List ColumnRaw) → AreSampled (columns_of (length events) runs) samples → (a : Attributed) → attributed scopes events runs samples ≡ Ok a → IsDatabaseOf a (attribution_of a).stored
  database_attributed runs are_runs samples taken a is =
      subst (λ (b : Attributed). IsDatabaseOf b (attribution_of b).stored) (sym (attributed_as scopes events runs samples a is)) (database_of runs are_runs samples taken (few_scopes scopes events runs samples a is))

-- ---- of a run

pub profiles_stored : StoredLaws → OfInstructions → PathsHaveFrames → PathsHaveWords → ProfilesStoreDatabases
unfolding profile_of
profiles_stored laws each frames words elf input schedule events whole bytes short are most is =
    let p = bind_ok (profiled_of elf input schedule events) (λ p. Ok (product_of p)) whole is in
    let m : Measured = p.0.measured in
    let made : Parts elf input schedule events p.0 = parts elf input schedule events p.0 p.1 in
    let of : AreScopesOf elf made.scopes = scopes_read elf made.image made.scopes made.program_is made.scopes_is short in
    let parts_of : RunParts elf input schedule events p.0.measured = run_parts elf input schedule events p.0 made in
    let taken : AreTaken m.events m.harts m.samples = samples_taken elf input schedule events p.0.measured parts_of bytes each frames words in
    let same : m.events ≡ events = events_are elf input schedule events p.0.measured parts_of in
    let small : All (λ e. IsWord e.period) events = All-weaker (λ (e : EventPeriod). e.period ≤ most_period) (λ (e : EventPeriod). IsWord e.period) (λ e le. omega (arith, le)) events most in
    let database : IsDatabaseOf p.0.attributed (product_of p.0).stored =
    database_attributed laws m.events (subst AreEvents (sym same) are) (subst (λ (es : List EventPeriod). All (λ e. IsWord e.period) es) (sym same) small) elf made.scopes of (m.harts ∷ []) (one_of_runs m.harts taken.some taken.few) m.samples
    (subst (λ (n : ℕ). AreSampled n m.samples) (sym (own_columns m.events m.harts)) taken.sampled) p.0.attributed made.attributed_is in
    record {
      run = p.0;
      profiled = p.1;
      stored = subst (λ (made : Product). IsDatabaseOf p.0.attributed made.stored) (ok_same (product_of p.0) whole p.2) database;
    }

-- ---- of a measurement

-- what measure_file's laws say
pub record MeasuredLaws : Type 0 where
  pub measurable : (bytes : List ℕ) (m : EventHead × List (List Counted)) → IsBytes bytes → event_measurement_in bytes ≡ Ok m → IsEventMeasurable m.0 m.1
  pub again : (tables : List (List Counted)) → AreMeasured tables → distinct (length tables) (each_sample tables) ≡ tables
  pub many : (tables : List (List Counted)) → length (each_sample tables) ≡ samples_in tables
  pub columns : (tables : List (List Counted)) → All (λ s. s.column < length tables) (each_sample tables)

abbrev OfCounted : ColumnRaw → Type 0
OfCounted s = HasFrames s.raw.frames × All HasWord s.raw.frames

column_counted : (column : ℕ) (cs : List Counted) → All IsCounted cs → All OfCounted (each_of_column (column, cs))
column_counted column [] all = All-nil OfCounted
column_counted column (c ∷ cs) all =
    let s : ColumnRaw = record { column = column; raw = c.path } in
    let first = All-head IsCounted c cs all in
    All-append OfCounted (replicate c.count s) (each_of_column (column, cs)) (All-replicate OfCounted c.count s (first.frames, first.addresses)) (column_counted column cs (All-tail IsCounted c cs all))

tables_counted : (first : ℕ) (tables : List (List Counted)) → All (All IsCounted) tables → All OfCounted (flat_map each_of_column (enumerate_from first tables))
tables_counted first [] all = All-nil OfCounted
tables_counted first (t ∷ tables) all =
    All-append OfCounted (each_of_column (first, t)) (flat_map each_of_column (enumerate_from (first + 1) tables)) (column_counted first t (All-head (All IsCounted) t tables all))
    (tables_counted (first + 1) tables (All-tail (All IsCounted) t tables all))

pub measured_sampled : MeasuredLaws → (tables : List (List Counted)) → AreMeasured tables → AreSampled (length tables) (each_sample tables)
measured_sampled laws tables are =
    let raws = tables_counted 0 tables are.paths in
    let many = laws.many tables in
    let most = are.samples in
    record {
      own = laws.columns tables;
      paths = λ k d lt. (raws k d lt).0;
      addresses = λ k d lt. (raws k d lt).1;
      sampled = omega (arith, many, most);
      frames = subst (λ (ts : List (List Counted)). frames_in ts ≤ most_frames_in_all) (sym (laws.again tables are)) are.frames;
    }

-- the columns of a measurement are those of its run
pub measured_columns : (head : EventHead) (tables : List (List Counted)) → IsEventMeasurable head tables → length tables ≡ columns_of (length head.events) (head.harts ∷ [])
measured_columns head tables sound = sound.columns ∙ sym (own_columns head.events head.harts)

-- the head that is of the program is the measurement's
own_head : (same : Bool) (head own : EventHead) (fault : InputFault) → (let r : Result EventHead InputFault = cond same (Ok head) (Err fault) in r) ≡ Ok own → head ≡ own
own_head true head own fault e = ok_same head own e
own_head false head own fault e = absurd cc

pub profs_stored : StoredLaws → MeasuredLaws → ProfsStoreDatabases
unfolding prof_product
profs_stored laws measured elf bytes whole short are is =
    let m = bind_ok (measurement bytes) (λ (head, tables). program elf >>= λ image. of_program image head >>= λ head. attributed_code image head.events (head.harts ∷ []) tables) whole is in
    let head : EventHead = m.0.0 in
    let tables : List (List Counted) = m.0.1 in
    let image = bind_ok (program elf) (λ image. of_program image head >>= λ head. attributed_code image head.events (head.harts ∷ []) tables) whole m.2 in
    let own = bind_ok (of_program image.0 head) (λ head. attributed_code image.0 head.events (head.harts ∷ []) tables) whole image.2 in
    let scopes = bind_ok (program_scopes image.0) (λ scopes. attributed scopes own.0.events (own.0.harts ∷ []) (each_sample tables) >>= λ a. Ok (attribution_of a)) whole own.2 in
    let a = bind_ok (attributed scopes.0 own.0.events (own.0.harts ∷ []) (each_sample tables)) (λ a. Ok (attribution_of a)) whole scopes.2 in
    let same : head ≡ own.0 =
    own_head (is_of_program image.0 head) head own.0 (WrongProgram head.length head.entry (length image.0.file) image.0.entry) own.1 in
    let sound : IsEventMeasurable head tables = measured.measurable bytes m.0 are (from_faulted (λ (fault : MeasureFault). Measurement fault.offset) (event_measurement_in bytes) m.0 m.1) in
    let of : AreScopesOf elf scopes.0 = scopes_read elf image.0 scopes.0 image.1 scopes.1 short in
    let taken : attributed scopes.0 head.events (head.harts ∷ []) (each_sample tables) ≡ Ok a.0 =
    subst (λ (h : EventHead). attributed scopes.0 h.events (h.harts ∷ []) (each_sample tables) ≡ Ok a.0) (sym same) a.1 in
    let database : IsDatabaseOf a.0 (attribution_of a.0).stored =
    database_attributed laws head.events sound.events sound.periods elf scopes.0 of (head.harts ∷ []) (one_of_runs head.harts sound.some sound.few) (each_sample tables)
    (subst (λ (n : ℕ). AreSampled n (each_sample tables)) (measured_columns head tables sound) (measured_sampled measured tables sound.counts)) a.0 taken in
    let made : attribution_of a.0 ≡ whole = ok_same (attribution_of a.0) whole a.2 in
    record {
      head = head;
      tables = tables;
      measured = m.1;
      image = image.0;
      read = image.1;
      scopes = scopes.0;
      found = scopes.1;
      samples = a.0;
      taken = taken;
      stored = subst (λ (made : Product). IsDatabaseOf a.0 made.stored) made database;
    }
