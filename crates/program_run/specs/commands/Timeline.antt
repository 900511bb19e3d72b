-- `timeline` as a function of its files: what each hart of a trace did at a number of moments, as text; or the first
-- refusal.
use Rattle.std.specs.Prelude.{ℕ, List, [], ◌∷◌, Result, Ok, Err, if◌then◌else◌}
use Rattle.prof_bytes.specs.Outcome.{◌>>=◌}
use Rattle.elf_image.specs.Image.{ProgramImage}
use Rattle.scope_find.specs.Found.{ProgramScopes, found_at, naming_of}
use Rattle.scope_types.specs.Expansion.{call_path}
use Rattle.trace_lines.specs.Reading.{trace_in}
use Rattle.trace_lines.specs.Timeline.{timeline_text}
use Rattle.trace_lines.specs.Traces.{Traced}
use Rattle.command_line.specs.declared.status.InputFault.{InputFault}
use Rattle.command_line.specs.declared.status.InputFault.TheVariants.{Trace}
use Rattle.command_line.specs.Faulted.{faulted}
use Rattle.command_line.specs.declared.product.Product.{Product}
use Rattle.command_line.specs.Product.{no_product, only_text}
use Rattle.program_run.specs.Program.{is_same_program, program, wrong_program}
use Rattle.program_run.specs.Scopes.{program_scopes}

-- the trace, or the first fault of its file
abbrev pub trace_read : List ℕ → Result Traced InputFault
trace_read bytes = faulted (λ fault. Trace fault.offset) (trace_in bytes)

-- the trace is one of this program
abbrev pub trace_of_program : ProgramImage → Traced → Result Traced InputFault
trace_of_program image t =
    if is_same_program image t.length t.entry then Ok t else Err (wrong_program image t.length t.entry)

-- the timeline of a trace, by the call paths and the names of a program's scopes
abbrev pub timeline_by : ProgramScopes → Traced → ℕ → ℕ → List ℕ
timeline_by scopes t depth cells =
    timeline_text (call_path (found_at scopes)) (naming_of scopes).proc_name t depth cells

-- the timeline of a trace of this program, or the first refusal of the program's debug information
abbrev pub timed_code : ProgramImage → Traced → ℕ → ℕ → Result Product InputFault
timed_code image t depth cells = do
  scopes ← program_scopes image
  Ok (only_text (timeline_by scopes t depth cells))

-- the timeline of a trace of a program, or the first of their refusals
unfoldable pub timeline_product : List ℕ → List ℕ → ℕ → ℕ → Result Product InputFault
timeline_product elf bytes depth cells = do
  t ← trace_read bytes
  image ← program elf
  t ← trace_of_program image t
  timed_code image t depth cells

-- the same of the contents of the command's files
abbrev pub timeline_makes : ℕ → ℕ → List (List ℕ) → Result Product InputFault
timeline_makes depth cells (elf ∷ trace ∷ []) = timeline_product elf trace depth cells
timeline_makes depth cells texts = Ok no_product
