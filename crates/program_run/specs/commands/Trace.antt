-- `trace` as a function of its files: the trace of a program's run that is stored, and the lines that are put, or the
-- first refusal, which is that of `run`.
use Rattle.std.specs.Prelude.{ℕ, List, [], ◌∷◌, length, map, Result, Ok}
use Rattle.std.specs.List.{range_with_len}
use Rattle.prof_bytes.specs.Outcome.{◌>>=◌}
use Rattle.elf_image.specs.Image.{ProgramImage}
use Rattle.rv_run.specs.State.{hart_of}
use Rattle.scope_types.specs.Distinct.{raws_of}
use Rattle.scope_types.specs.Events.{retired_every}
use Rattle.trace_lines.specs.Spelling.{trace_spelling}
use Rattle.trace_lines.specs.Traces.{HartTrace, Traced}
use Rattle.command_line.specs.declared.status.InputFault.{InputFault}
use Rattle.program_run.specs.Measured.{Measured, lines_of, measured}
use Rattle.command_line.specs.declared.product.Product.{Product}
use Rattle.command_line.specs.Product.{no_product}
use Rattle.program_run.specs.Program.{scheduled, program, frame_information}

-- a hart of a run whose only event is retired: the instructions that it retired, and the raw path of each of its
-- samples, in order. Its column has its number
abbrev pub hart_traced : Measured → ℕ → HartTrace
hart_traced m hart = record { retired = (hart_of m.final hart).retired; samples = raws_of m.samples hart }

-- the trace of a program's run, of which retired instructions are sampled with this period
abbrev pub trace_of : ProgramImage → ℕ → Measured → Traced
trace_of image period m = record {
  length = length image.file;
  entry = image.entry;
  period = period;
  harts = map (hart_traced m) (range_with_len 0 m.harts);
}

-- the trace is stored. The text is the report without its table: the lines on the run
abbrev pub traced_of : ProgramImage → ℕ → Measured → Product
traced_of image period m = record { stored = trace_spelling (trace_of image period m); text = lines_of m }

-- the product of a program, an input and a schedule, of which retired instructions are sampled with this period, or the
-- first of their refusals
unfoldable pub trace_product : List ℕ → List ℕ → List ℕ → ℕ → Result Product InputFault
trace_product elf input schedule period = do
  schedule ← scheduled schedule
  image ← program elf
  described ← frame_information image
  m ← measured image described schedule input (retired_every period)
  Ok (traced_of image period m)

-- the same of the contents of the command's files
abbrev pub trace_makes : ℕ → List (List ℕ) → Result Product InputFault
trace_makes period (elf ∷ input ∷ schedule ∷ []) = trace_product elf input schedule period
trace_makes period texts = Ok no_product
