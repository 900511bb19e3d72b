-- What commands store: each database is read as what it was made of, and each measurement is one.
use Rattle.std.specs.Prelude.{◌≡◌, ◌≢◌, ◌≤◌, ℕ, List, [], ◌∷◌, All, length, sum, Option, Ok, Err}
use Rattle.prof_bytes.specs.Number.{IsBytes}
use Rattle.elf_image.specs.Image.{ProgramImage}
use Rattle.measure_file.specs.declared.head.EventHead.{EventHead}
use Rattle.prof_stats.specs.StatsTable.{table_of_paths as summaries_of_paths}
use Rattle.scope_find.specs.Found.{ProgramScopes, naming_of}
use Rattle.scope_types.specs.declared.event.Event.{Event}
use Rattle.scope_types.specs.declared.event.EventPeriod.{EventPeriod}
use Rattle.scope_types.specs.declared.frame.Counted.{Counted}
use Rattle.scope_types.specs.Columns.{paths_of_event}
use Rattle.scope_types.specs.Distinct.{each_sample}
use Rattle.scope_types.specs.Events.{AreEvents}
use Rattle.scope_types.specs.Limits.{most_runs}
use Rattle.tree_types.specs.Database.{period_at}
use Rattle.tree_types.specs.declared.content.Kind.{Kind}
use Rattle.command_line.specs.Words.{most_period}
use Rattle.command_line.specs.declared.request.ViewTable.{ViewTable}
use Rattle.command_line.specs.declared.status.InputFault.TheVariants.{Measurement}
use Rattle.run_profile.specs.Attribution.{Attributed, attributed, call_paths_of, event_content}
use Rattle.program_run.specs.Measured.{Measured}
use Rattle.command_line.specs.declared.product.Product.{Product}
use Rattle.program_run.specs.Program.{program}
use Rattle.program_run.specs.Scopes.{program_scopes}
use Rattle.command_line.specs.Kind.{program_limit}
use Rattle.hpc_top.specs.commands.Merge.{KeptRun, all_tables, first_events, harts_of_runs}
use Rattle.hpc_top.specs.commands.Merge.{measurements_from, merge_product}
use Rattle.hpc_top.specs.commands.Prof.{measurement, prof_product}
use Rattle.hpc_top.specs.commands.Profile.{Profiled, profile_of, profiled_of}
use Rattle.program_run.specs.commands.Run.{counted_in, head_of, run_product}
use Rattle.run_profile.specs.commands.Stats.{stats_product}
use Rattle.run_profile.specs.commands.View.{database, shown_at, table_of_paths, view_product}

-- ---- databases

-- a table of the event at this place, of the samples' call paths
abbrev pub table_at : ViewTable → Attributed → ℕ → List ℕ
table_at table a place =
    table_of_paths table (period_at a.events place) (sum a.runs) (naming_of a.scopes)
    (paths_of_event (length a.events) place (call_paths_of a))

-- the summaries of the event at this place, of the samples' call paths, for one kind of their values
abbrev pub summaries_at : Kind → Attributed → ℕ → List ℕ
summaries_at kind a place =
    summaries_of_paths (period_at a.events place) (sum a.runs) (naming_of a.scopes)
    (paths_of_event (length a.events) place (call_paths_of a)) kind

-- bytes that are read as the content of samples' call paths. `view` of them puts each table of each event's paths, and
-- `stats` the summaries of these; both refuse an event that was not sampled
pub record IsDatabaseOf (a : Attributed) (bytes : List ℕ) : Type 0 where
  pub read : database bytes ≡ Ok (event_content a (call_paths_of a))
  pub shown : (table : ViewTable) (event : Option Event) → view_product table event bytes
      ≡ shown_at event a.events (table_at table a)
  pub summed : (kind : Kind) (event : Option Event) → stats_product kind event bytes
      ≡ shown_at event a.events (summaries_at kind a)

-- what a profile stores is the database of its run's samples
pub record StoresProfile (elf input schedule : List ℕ) (events : List EventPeriod) (whole : Product) : Type 0 where
  pub run : Profiled
  pub profiled : profiled_of elf input schedule events ≡ Ok run
  pub stored : IsDatabaseOf run.attributed whole.stored

-- what `prof` stores is the database of the measurement's samples
pub record StoresSamples (elf bytes : List ℕ) (whole : Product) : Type 0 where
  pub head : EventHead
  pub tables : List (List Counted)
  pub measured : measurement bytes ≡ Ok (head, tables)
  pub image : ProgramImage
  pub read : program elf ≡ Ok image
  pub scopes : ProgramScopes
  pub found : program_scopes image ≡ Ok scopes
  pub samples : Attributed
  pub taken : attributed scopes head.events (head.harts ∷ []) (each_sample tables) ≡ Ok samples
  pub stored : IsDatabaseOf samples whole.stored

-- what `merge` stores is the database of the samples of all measurements, each a run
pub record StoresRuns (elf : List ℕ) (measured : List (List ℕ)) (whole : Product) : Type 0 where
  pub runs : List KeptRun
  pub kept : measurements_from 0 measured ≡ Ok runs
  pub image : ProgramImage
  pub read : program elf ≡ Ok image
  pub scopes : ProgramScopes
  pub found : program_scopes image ≡ Ok scopes
  pub samples : Attributed
  pub taken : attributed scopes (first_events runs) (harts_of_runs runs) (each_sample (all_tables runs)) ≡ Ok samples
  pub stored : IsDatabaseOf samples whole.stored

-- so it is of every profile that is accepted, of a program within its limit
abbrev pub ProfilesStoreDatabases : Type 0
ProfilesStoreDatabases = (elf input schedule : List ℕ) (events : List EventPeriod) (whole : Product)
    → IsBytes elf → length elf ≤ program_limit → AreEvents events → All (λ e. e.period ≤ most_period) events
    → profile_of elf input schedule events ≡ Ok whole → StoresProfile elf input schedule events whole

-- and of every `prof` that is accepted
abbrev pub ProfsStoreDatabases : Type 0
ProfsStoreDatabases = (elf bytes : List ℕ) (whole : Product) → length elf ≤ program_limit → IsBytes bytes
    → prof_product elf bytes ≡ Ok whole → StoresSamples elf bytes whole

-- and of every `merge` that is accepted, of 1 to 16 measurements
abbrev pub MergesStoreDatabases : Type 0
MergesStoreDatabases = (elf : List ℕ) (measured : List (List ℕ)) (whole : Product) → length elf ≤ program_limit
    → 1 ≤ length measured → length measured ≤ most_runs → All IsBytes measured
    → merge_product elf measured ≡ Ok whole → StoresRuns elf measured whole

-- ---- measurements

-- what `run` stores is read as the distinct raw paths of its samples, and `prof` of it doesn't refuse it as a
-- measurement, whatever the program
pub record StoresMeasurement (elf : List ℕ) (events : List EventPeriod) (kept : Product) : Type 0 where
  pub image : ProgramImage
  pub read : program elf ≡ Ok image
  pub run : Measured
  pub own_events : run.events ≡ events
  pub measured : measurement kept.stored ≡ Ok (head_of image run, counted_in run)
  pub accepted : (other : List ℕ) (offset : ℕ) → prof_product other kept.stored ≢ Err (Measurement offset)

-- so it is of every `run` that is accepted, of a program within its limit
abbrev pub RunsStoreMeasurements : Type 0
RunsStoreMeasurements = (elf input schedule : List ℕ) (events : List EventPeriod) (kept : Product)
    → IsBytes elf → length elf ≤ program_limit → AreEvents events → All (λ e. e.period ≤ most_period) events
    → run_product elf input schedule events ≡ Ok kept → StoresMeasurement elf events kept
