-- What `trace` stores is the trace of the run, and what it puts or refuses is what `run` puts or refuses.
use Rattle.std.specs.Prelude.{◌≡◌, ◌≢◌, ◌≤◌, ℕ, List, length, Result, Ok, Err}
use Rattle.prof_bytes.specs.Number.{IsBytes}
use Rattle.cfi_table.specs.Frames.{FrameDescription}
use Rattle.elf_image.specs.Image.{ProgramImage}
use Rattle.rv_run.specs.Schedule.{Scheduled}
use Rattle.scope_types.specs.Events.{retired_every}
use Rattle.trace_lines.specs.Reading.{trace_in}
use Rattle.command_line.specs.Words.{most_period}
use Rattle.command_line.specs.declared.status.InputFault.{InputFault}
use Rattle.command_line.specs.declared.status.InputFault.TheVariants.{Trace}
use Rattle.program_run.specs.Measured.{Measured, measured}
use Rattle.command_line.specs.declared.product.Product.{Product}
use Rattle.program_run.specs.Program.{frame_information, program, scheduled}
use Rattle.command_line.specs.Kind.{program_limit}
use Rattle.program_run.specs.commands.Run.{run_product}
use Rattle.program_run.specs.commands.Timeline.{timeline_product}
use Rattle.program_run.specs.commands.Trace.{trace_of, trace_product}

-- what is stored is read as the trace of the run, which has for each hart the instructions that it retired and the raw
-- path of each of its samples; and `timeline` of it doesn't refuse it as a trace, whatever the program
pub record StoresTrace (elf input schedule : List ℕ) (period : ℕ) (kept : Product) : Type 0 where
  pub slices : Scheduled
  pub scheduled_so : scheduled schedule ≡ Ok slices
  pub image : ProgramImage
  pub read : program elf ≡ Ok image
  pub described : List FrameDescription
  pub frames : frame_information image ≡ Ok described
  pub run : Measured
  pub ran : measured image described slices input (retired_every period) ≡ Ok run
  pub traced : trace_in kept.stored ≡ Ok (trace_of image period run)
  pub accepted : (other : List ℕ) (depth cells offset : ℕ)
      → timeline_product other kept.stored depth cells ≢ Err (Trace offset)

-- so it is of every `trace` that is accepted, of a program within its limit
abbrev pub TracesStoreRuns : Type 0
TracesStoreRuns = (elf input schedule : List ℕ) (period : ℕ) (kept : Product)
    → IsBytes elf → length elf ≤ program_limit → 1 ≤ period → period ≤ most_period
    → trace_product elf input schedule period ≡ Ok kept → StoresTrace elf input schedule period kept

-- the text that is put, or the refusal
abbrev pub text_or : Result Product InputFault → Result (List ℕ) InputFault
text_or (Ok made) = Ok made.text
text_or (Err fault) = Err fault

-- `trace` puts what `run` with the same period puts, and refuses what it refuses
abbrev pub TraceRuns : Type 0
TraceRuns = (elf input schedule : List ℕ) (period : ℕ)
    → text_or (trace_product elf input schedule period)
    ≡ text_or (run_product elf input schedule (retired_every period))
