-- `profile` as a function of its files: what is stored and what is put, or the first refusal.
use Rattle.std.specs.Prelude.{ℕ, List, [], ◌∷◌, ◌++◌, Result, Ok}
use Rattle.prof_bytes.specs.Outcome.{◌>>=◌}
use Rattle.elf_image.specs.Image.{ProgramImage}
use Rattle.cfi_table.specs.Frames.{FrameDescription}
use Rattle.rv_run.specs.Schedule.{Scheduled}
use Rattle.scope_find.specs.Found.{ProgramScopes}
use Rattle.scope_types.specs.declared.event.EventPeriod.{EventPeriod}
use Rattle.scope_types.specs.CallPaths.{ColumnPath}
use Rattle.command_line.specs.declared.status.InputFault.{InputFault}
use Rattle.run_profile.specs.Attribution.{Attributed, attributed, attribution_from, call_paths_of}
use Rattle.program_run.specs.Measured.{Measured, lines_of, measured}
use Rattle.command_line.specs.declared.product.Product.{Product}
use Rattle.command_line.specs.Product.{no_product}
use Rattle.program_run.specs.Program.{scheduled, program, frame_information}
use Rattle.program_run.specs.Scopes.{program_scopes}

-- ---- the run

-- a run, measured, and its samples, attributed
pub record Profiled : Type 0 where
  pub measured : Measured
  pub attributed : Attributed

-- a run that was measured, unless its samples have too many scopes
abbrev pub profiled : ProgramScopes → Measured → Result Profiled InputFault
profiled scopes m = do
  a ← attributed scopes m.events (m.harts ∷ []) m.samples
  Ok (record { measured = m; attributed = a })

-- the run of a program whose call frame information and debug information were read
abbrev pub profiled_program : ProgramImage → List FrameDescription → ProgramScopes → Scheduled → List ℕ
    → List EventPeriod → Result Profiled InputFault
profiled_program image described scopes schedule input events = do
  m ← measured image described schedule input events
  profiled scopes m

-- the run of a program, an input and a schedule, of which these events are sampled, or the first of their refusals
unfoldable pub profiled_of : List ℕ → List ℕ → List ℕ → List EventPeriod → Result Profiled InputFault
profiled_of elf input schedule events = do
  schedule ← scheduled schedule
  image ← program elf
  described ← frame_information image
  scopes ← program_scopes image
  profiled_program image described scopes schedule input events

-- ---- the product

-- the product whose database and tables are those of these paths, with the lines on the run before the tables
abbrev pub product_from : Profiled → List ColumnPath → Product
product_from p paths = record {
  stored = (attribution_from p.attributed paths).stored;
  text = lines_of p.measured ++ (attribution_from p.attributed paths).text;
}

-- the product of a run is that of all its samples
abbrev pub product_of : Profiled → Product
product_of p = product_from p (call_paths_of p.attributed)

-- the product of a program, an input and a schedule, or the first of their refusals
unfoldable pub profile_of : List ℕ → List ℕ → List ℕ → List EventPeriod → Result Product InputFault
profile_of elf input schedule events = do
  p ← profiled_of elf input schedule events
  Ok (product_of p)

-- the same of the contents of the command's files
abbrev pub profile_makes : List EventPeriod → List (List ℕ) → Result Product InputFault
profile_makes events (elf ∷ input ∷ schedule ∷ []) = profile_of elf input schedule events
profile_makes events texts = Ok no_product
