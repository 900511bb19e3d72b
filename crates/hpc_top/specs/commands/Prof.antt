-- `prof` as a function of its files: the database and the tables of a measurement, or the first refusal.
use Rattle.std.specs.Prelude.{ℕ, Bool, List, [], ◌∷◌, Result, Ok, Err, if◌then◌else◌}
use Rattle.prof_bytes.specs.Outcome.{◌>>=◌}
use Rattle.elf_image.specs.Image.{ProgramImage}
use Rattle.measure_file.specs.declared.head.EventHead.{EventHead}
use Rattle.measure_file.specs.Reading.{event_measurement_in}
use Rattle.scope_types.specs.declared.event.EventPeriod.{EventPeriod}
use Rattle.scope_types.specs.declared.frame.Counted.{Counted}
use Rattle.scope_types.specs.Distinct.{each_sample}
use Rattle.command_line.specs.declared.status.InputFault.{InputFault}
use Rattle.command_line.specs.declared.status.InputFault.TheVariants.{Measurement}
use Rattle.run_profile.specs.Attribution.{attributed, attribution_of}
use Rattle.command_line.specs.Faulted.{faulted}
use Rattle.command_line.specs.declared.product.Product.{Product}
use Rattle.command_line.specs.Product.{no_product}
use Rattle.program_run.specs.Program.{is_same_program, program, wrong_program}
use Rattle.program_run.specs.Scopes.{program_scopes}

-- the measurement, or the first fault of its file
abbrev pub measurement : List ℕ → Result (EventHead × List (List Counted)) InputFault
measurement bytes = faulted (λ fault. Measurement fault.offset) (event_measurement_in bytes)

-- whether a measurement is one of this program
abbrev pub is_of_program : ProgramImage → EventHead → Bool
is_of_program image head = is_same_program image head.length head.entry

-- the measurement is one of this program
abbrev pub of_program : ProgramImage → EventHead → Result EventHead InputFault
of_program image head =
    if is_of_program image head then Ok head else Err (wrong_program image head.length head.entry)

-- the product of a program and the samples that measurements count, each raw path as often as it is counted, where
-- these are the events and the harts of each run, and the columns of all runs come one after another; or the first
-- refusal of the program's debug information
abbrev pub attributed_code : ProgramImage → List EventPeriod → List ℕ → List (List Counted) → Result Product InputFault
attributed_code image events runs tables = do
  scopes ← program_scopes image
  a ← attributed scopes events runs (each_sample tables)
  Ok (attribution_of a)

-- the product of a program and a measurement, or the first of their refusals
unfoldable pub prof_product : List ℕ → List ℕ → Result Product InputFault
prof_product elf bytes = do
  (head, tables) ← measurement bytes
  image ← program elf
  head ← of_program image head
  attributed_code image head.events (head.harts ∷ []) tables

-- the same of the contents of the command's files
abbrev pub prof_makes : List (List ℕ) → Result Product InputFault
prof_makes (elf ∷ measurement ∷ []) = prof_product elf measurement
prof_makes texts = Ok no_product
