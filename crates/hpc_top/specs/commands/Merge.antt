-- `merge` as a function of its files: the database and the tables of several measurements of one program, each a run by
-- its place from 0, or the first refusal.
use Rattle.std.specs.Prelude.{ℕ, ◌+◌, ◌==◌, ◌&&◌, Bool, List, [], ◌∷◌, length, map}
use Rattle.std.specs.Prelude.{Result, Ok, Err, if◌then◌else◌}
use Rattle.std.specs.Cmp.Lexicographic.{pointwise}
use Rattle.std.specs.List.{flat_map}
use Rattle.prof_bytes.specs.Outcome.{◌>>=◌}
use Rattle.elf_image.specs.Image.{ProgramImage}
use Rattle.measure_file.specs.declared.head.EventHead.{EventHead}
use Rattle.measure_file.specs.Reading.{event_measurement_in}
use Rattle.scope_types.specs.declared.event.EventPeriod.{EventPeriod}
use Rattle.scope_types.specs.declared.frame.Counted.{Counted}
use Rattle.scope_types.specs.Events.{event_number}
use Rattle.command_line.specs.declared.status.InputFault.{InputFault}
use Rattle.command_line.specs.declared.status.InputFault.TheVariants.{Merging}
use Rattle.command_line.specs.declared.status.MergeFault.TheVariants as merge_faults
use Rattle.command_line.specs.Faulted.{faulted}
use Rattle.command_line.specs.declared.product.Product.{Product}
use Rattle.command_line.specs.Product.{no_product}
use Rattle.program_run.specs.Program.{program}
use Rattle.program_run.specs.Samples.{within_counts, within_frames}
use Rattle.hpc_top.specs.commands.Prof.{attributed_code, is_of_program}

-- ---- the runs

-- a run, as its measurement keeps it: the head, and the counted paths of each column
abbrev pub KeptRun : Type 0
KeptRun = EventHead × List (List Counted)

-- the measurement at a place, or the first fault of its file
abbrev pub measurement_at : ℕ → List ℕ → Result KeptRun InputFault
measurement_at place bytes =
    faulted (λ fault. Merging place (merge_faults.Measurement fault.offset)) (event_measurement_in bytes)

-- the measurements from a place on, or the first fault of the first file that has one
abbrev pub measurements_from : ℕ → List (List ℕ) → Result (List KeptRun) InputFault
measurements_from place [] = Ok []
measurements_from place (bytes ∷ rest) = do
  run ← measurement_at place bytes
  runs ← measurements_from (place + 1) rest
  Ok (run ∷ runs)

-- the events of the first run
abbrev pub first_events : List KeptRun → List EventPeriod
first_events [] = []
first_events (run ∷ runs) = run.0.events

-- the harts of each run
abbrev pub harts_of_runs : List KeptRun → List ℕ
harts_of_runs runs = map (λ run. run.0.harts) runs

-- the counted paths of all runs: the columns of each come after those of the runs before it
abbrev pub all_tables : List KeptRun → List (List Counted)
all_tables runs = flat_map (λ run. run.1) runs

-- ---- which runs can be merged

-- the runs from a place on pass a test, or the fault of the first that doesn't
abbrev pub runs_pass : (KeptRun → Bool) → (ℕ → KeptRun → InputFault) → ℕ → List KeptRun → Result (Unit {0}) InputFault
runs_pass test fault place [] = Ok tt
runs_pass test fault place (run ∷ rest) =
    if test run then runs_pass test fault (place + 1) rest else Err (fault place run)

-- the refusal of a run of another program
abbrev pub another_program : ProgramImage → ℕ → KeptRun → InputFault
another_program image place run =
    Merging place (merge_faults.WrongProgram run.0.length run.0.entry (length image.file) image.entry)

-- all runs are of this program, or the first that isn't
abbrev pub of_one_program : ProgramImage → List KeptRun → Result (Unit {0}) InputFault
of_one_program image runs = runs_pass (λ run. is_of_program image run.0) (another_program image) 0 runs

-- the same event with the same period
abbrev pub same_event : EventPeriod → EventPeriod → Bool
same_event a b = event_number a.event == event_number b.event && a.period == b.period

-- the same events, each with the same period
abbrev pub same_events : List EventPeriod → List EventPeriod → Bool
same_events a b = pointwise same_event a b

-- the refusal of a run of other events or periods
abbrev pub mixed_periods : ℕ → KeptRun → InputFault
mixed_periods place run = Merging place merge_faults.MixedPeriods

-- all runs have the events and periods of the first one, or the first that hasn't
abbrev pub of_same_events : List KeptRun → Result (Unit {0}) InputFault
of_same_events runs = runs_pass (λ run. same_events (first_events runs) run.0.events) mixed_periods 0 runs

-- the counted paths of all runs, unless they count too many samples or have too many frames
abbrev pub within_limits : List KeptRun → Result (List (List Counted)) InputFault
within_limits runs = do
  tables ← within_counts (all_tables runs)
  within_frames tables

-- ---- the product

-- the product of a program and the runs of its measurements, or the first of their refusals
abbrev pub merged_runs : ProgramImage → List KeptRun → Result Product InputFault
merged_runs image runs = do
  done ← of_one_program image runs
  done ← of_same_events runs
  tables ← within_limits runs
  attributed_code image (first_events runs) (harts_of_runs runs) tables

-- the product of a program and measurements, or the first of their refusals
unfoldable pub merge_product : List ℕ → List (List ℕ) → Result Product InputFault
merge_product elf measured = do
  runs ← measurements_from 0 measured
  image ← program elf
  merged_runs image runs

-- the same of the contents of the command's files
abbrev pub merge_makes : List (List ℕ) → Result Product InputFault
merge_makes (elf ∷ measured) = merge_product elf measured
merge_makes [] = Ok no_product
