-- `run` as a function of its files: the measurement that is stored, and the lines that are put, or the first refusal.
use Rattle.std.specs.Prelude.{ℕ, List, [], ◌∷◌, ◌++◌, length, Result, Ok}
use Rattle.prof_bytes.specs.Outcome.{◌>>=◌}
use Rattle.elf_image.specs.Image.{ProgramImage}
use Rattle.measure_file.specs.declared.head.EventHead.{EventHead}
use Rattle.measure_file.specs.Spelling.{event_measurement_spelling}
use Rattle.run_report.specs.Report.{event_lines}
use Rattle.scope_types.specs.declared.event.EventPeriod.{EventPeriod}
use Rattle.scope_types.specs.declared.frame.Counted.{Counted}
use Rattle.scope_types.specs.Distinct.{distinct}
use Rattle.command_line.specs.declared.status.InputFault.{InputFault}
use Rattle.program_run.specs.Measured.{Measured, lines_of, measured}
use Rattle.command_line.specs.declared.product.Product.{Product}
use Rattle.command_line.specs.Product.{no_product}
use Rattle.program_run.specs.Program.{scheduled, program, frame_information}
use Rattle.program_run.specs.Samples.{run_columns}

-- which program is measured, on how many harts, and which events are sampled
abbrev pub head_of : ProgramImage → Measured → EventHead
head_of image m =
    record { length = length image.file; entry = image.entry; harts = m.harts; events = m.events }

-- the distinct raw paths of the samples, by the columns of the run
abbrev pub counted_in : Measured → List (List Counted)
counted_in m = distinct (run_columns m.events m.harts) m.samples

-- the measurement has the distinct raw paths of the samples. The text is the report without its tables: the lines on
-- the run, and the line of each event, unless retired is the only one
abbrev pub measurement_of : ProgramImage → Measured → Product
measurement_of image m = record {
  stored = event_measurement_spelling (head_of image m) (counted_in m);
  text = lines_of m ++ event_lines m.events m.samples;
}

-- the product of a program, an input and a schedule, of which these events are sampled, or the first of their refusals
unfoldable pub run_product : List ℕ → List ℕ → List ℕ → List EventPeriod → Result Product InputFault
run_product elf input schedule events = do
  schedule ← scheduled schedule
  image ← program elf
  described ← frame_information image
  m ← measured image described schedule input events
  Ok (measurement_of image m)

-- the same of the contents of the command's files
abbrev pub run_makes : List EventPeriod → List (List ℕ) → Result Product InputFault
run_makes events (elf ∷ input ∷ schedule ∷ []) = run_product elf input schedule events
run_makes events texts = Ok no_product
