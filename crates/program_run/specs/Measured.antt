-- A run whose samples are counted.
use Rattle.std.specs.Prelude.{ℕ, List, Result, Ok}
use Rattle.prof_bytes.specs.Outcome.{◌>>=◌}
use Rattle.elf_image.specs.Image.{ProgramImage}
use Rattle.cfi_table.specs.Frames.{FrameDescription}
use Rattle.cfi_unwind.specs.Path.{unwinding_of, path_of as unwound_by}
use Rattle.rv_run.specs.Run.{Run, run_of}
use Rattle.rv_run.specs.Schedule.{Scheduled}
use Rattle.rv_run.specs.State.{MachineState}
use Rattle.run_report.specs.Report.{run_text}
use Rattle.sample_clock.specs.Samples.{Paths}
use Rattle.scope_types.specs.declared.event.EventPeriod.{EventPeriod}
use Rattle.scope_types.specs.Distinct.{ColumnRaw}
use Rattle.command_line.specs.declared.status.InputFault.{InputFault}
use Rattle.program_run.specs.Samples.{few_samples, run_columns, sampled}

-- what is measured of a run: the events with their periods, its harts, its samples of all events, and the machine at
-- the end
pub record Measured : Type 0 where
  pub events : List EventPeriod
  pub harts : ℕ
  pub samples : List ColumnRaw
  pub final : MachineState

-- a run, unless it has too many samples, or these have too many frames
unfoldable pub measured_run : Paths → List EventPeriod → ℕ → Run → Result Measured InputFault
measured_run path_of events harts run = do
  samples ← few_samples (run_columns events harts) (sampled path_of events run)
  Ok (record { events = events; harts = harts; samples = samples; final = run.final })

-- the run of a program whose call frame information was read, under a schedule
abbrev pub measured : ProgramImage → List FrameDescription → Scheduled → List ℕ → List EventPeriod
    → Result Measured InputFault
measured image described schedule input events =
    measured_run (unwound_by (unwinding_of described image)) events schedule.harts (run_of image schedule input)

-- the lines on the run
abbrev pub lines_of : Measured → List ℕ
lines_of m = run_text m.events m.harts m.final m.samples
