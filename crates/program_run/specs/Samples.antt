-- The samples of a run (HPCToolkit's manual, "Call Path Profiling").
use Rattle.std.specs.Prelude.{ℕ, ◌*◌, List, map, length, take, Result, Ok, Err, if◌then◌else◌, nat_lt}
use Rattle.prof_bytes.specs.Outcome.{◌>>=◌}
use Rattle.scope_types.specs.declared.event.EventPeriod.{EventPeriod}
use Rattle.scope_types.specs.declared.frame.Counted.{Counted}
use Rattle.scope_types.specs.Columns.{column_of}
use Rattle.scope_types.specs.Distinct.{ColumnRaw, distinct, frames_in, samples_in}
use Rattle.scope_types.specs.Limits.{most_samples, most_frames_in_all}
use Rattle.sample_clock.specs.declared.clock.Sample.{Sample}
use Rattle.sample_clock.specs.Samples.{Paths, samples}
use Rattle.rv_run.specs.Run.{Run}
use Rattle.command_line.specs.declared.status.InputFault.{InputFault}
use Rattle.command_line.specs.declared.status.InputFault.TheVariants.{TooManySamples, TooManyFrames}

-- ---- the samples that are taken

-- the counted paths, unless they have too many frames
abbrev pub within_frames : List (List Counted) → Result (List (List Counted)) InputFault
within_frames tables = if nat_lt most_frames_in_all (frames_in tables) then Err TooManyFrames else Ok tables

-- the counted paths, unless they count too many samples
abbrev pub within_counts : List (List Counted) → Result (List (List Counted)) InputFault
within_counts tables = if nat_lt most_samples (samples_in tables) then Err TooManySamples else Ok tables

-- the samples, unless there are too many
abbrev pub within_samples : List ColumnRaw → Result (List ColumnRaw) InputFault
within_samples all = if nat_lt most_samples (length all) then Err TooManySamples else Ok all

-- the first of two limits that the run meets: too many frames of the distinct raw paths of all columns, or too many
-- samples
abbrev pub few_samples : ℕ → List ColumnRaw → Result (List ColumnRaw) InputFault
few_samples columns all = do
  _ ← within_frames (distinct columns (take most_samples all))
  within_samples all

-- ---- the samples of a run

-- a sample of so many events, as its column, which is that of its hart and of its event, and its raw path
abbrev pub column_raw : ℕ → Sample → ColumnRaw
column_raw events s = record { column = column_of events s.hart s.event; raw = s.path }

-- the samples of a run, of all events
abbrev pub sampled : Paths → List EventPeriod → Run → List ColumnRaw
sampled path_of events run = map (column_raw (length events)) (samples path_of events run.instants)

-- how many columns a run has: one for each hart and event
abbrev pub run_columns : List EventPeriod → ℕ → ℕ
run_columns events harts = harts * length events
