-- Samples, attributed to scopes, with their database and their tables (HPCToolkit's manual, "Attribution").
use Rattle.std.specs.Prelude.{ℕ, List, ◌++◌, length, map, sum, Result, Ok, Err, if◌then◌else◌, nat_lt}
use Rattle.std.specs.List.{enumerate_from, flat_map}
use Rattle.prof_bytes.specs.Outcome.{◌>>=◌}
use Rattle.prof_db.specs.Spelling.{events_spelling}
use Rattle.run_report.specs.Report.{line_of_event}
use Rattle.scope_find.specs.Found.{ProgramScopes, found_at, naming_of}
use Rattle.scope_types.specs.declared.event.EventPeriod.{EventPeriod}
use Rattle.scope_types.specs.declared.scope.Scope.{Scope}
use Rattle.scope_types.specs.CallPaths.{ColumnPath}
use Rattle.scope_types.specs.Columns.{columns_of, paths_of_event}
use Rattle.scope_types.specs.Distinct.{ColumnRaw, distinct, scopes_in}
use Rattle.scope_types.specs.Expansion.{call_path}
use Rattle.scope_types.specs.Limits.{most_scopes_in_all}
use Rattle.scope_types.specs.Raw.{Raw}
use Rattle.tree_types.specs.declared.content.EventContent.{EventContent}
use Rattle.tree_types.specs.Database.{event_content_of}
use Rattle.tree_types.specs.TopDown.{top_down}
use Rattle.command_line.specs.declared.status.InputFault.{InputFault}
use Rattle.command_line.specs.declared.status.InputFault.TheVariants.{TooManyScopes}
use Rattle.command_line.specs.declared.product.Product.{Product}

-- ---- the samples

-- the call path of a sample, as raw paths are expanded
abbrev pub sample_path : (Raw → List Scope) → ColumnRaw → ColumnPath
sample_path expand s = record { column = s.column; path = expand s.raw }

-- the samples, unless the call paths of their distinct raw paths have too many scopes
abbrev pub within_scopes : (Raw → List Scope) → ℕ → List ColumnRaw → Result (List ColumnRaw) InputFault
within_scopes expand columns all =
    if nat_lt most_scopes_in_all (scopes_in expand (distinct columns all)) then Err TooManyScopes else Ok all

-- samples of events with their periods, on the harts of each of these runs, and the scopes of their program
pub record Attributed : Type 0 where
  pub scopes : ProgramScopes
  pub events : List EventPeriod
  pub runs : List ℕ
  pub samples : List ColumnRaw

-- samples, unless these have too many scopes
abbrev pub attributed : ProgramScopes → List EventPeriod → List ℕ → List ColumnRaw → Result Attributed InputFault
attributed scopes events runs samples = do
  samples ← within_scopes (call_path (found_at scopes)) (columns_of (length events) runs) samples
  Ok (record { scopes = scopes; events = events; runs = runs; samples = samples })

-- the call paths of the samples
abbrev pub call_paths_of : Attributed → List ColumnPath
call_paths_of a = map (sample_path (call_path (found_at a.scopes))) a.samples

-- ---- what is made of call paths of these events

-- their content
abbrev pub event_content : Attributed → List ColumnPath → EventContent
event_content a paths = event_content_of a.events a.runs (naming_of a.scopes) paths

-- the top-down table of an event, which is given with its place in the list: of its call paths alone, by its period
abbrev pub table_of_event : Attributed → List ColumnPath → ℕ × EventPeriod → List ℕ
table_of_event a paths numbered =
    top_down numbered.1.period (sum a.runs) (naming_of a.scopes) (paths_of_event (length a.events) numbered.0 paths)

-- the events one after another, each with its line before its table. There is no line where retired is the only event
abbrev pub event_tables : Attributed → List ColumnPath → List ℕ
event_tables a paths =
    flat_map (λ numbered. line_of_event a.events a.samples numbered ++ table_of_event a paths numbered)
    (enumerate_from 0 a.events)

-- the database, and the tables
abbrev pub attribution_from : Attributed → List ColumnPath → Product
attribution_from a paths = record {
  stored = events_spelling (event_content a paths);
  text = event_tables a paths;
}

-- the database and the tables of all samples
abbrev pub attribution_of : Attributed → Product
attribution_of a = attribution_from a (call_paths_of a)

-- the same, or the refusal of the samples
abbrev pub attribution_or : Result Attributed InputFault → Result Product InputFault
attribution_or wanted = wanted >>= λ a. Ok (attribution_of a)
