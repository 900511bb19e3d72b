-- A run's profile, as `profile` and `drill` take it: what is told of the run, and what was merged of its samples.
use Rattle.std.specs.Prelude.{◌≡◌, ℕ, ◌++◌, true, List, [], ◌∷◌, length, Result, Ok, Err}
use Rattle.prof_bytes.specs.declared.fail.Fail.{Fail}
use Rattle.prof_bytes.specs.Outcome.{◌>>=◌, FailsBy}
use Rattle.cfi_table.specs.Frames.{FrameDescription, descriptions}
use Rattle.elf_image.specs.Image.{ProgramImage}
use Rattle.prof_db.specs.Spelling.{events_spelling}
use Rattle.rv_run.specs.Schedule.{Scheduled}
use Rattle.scope_find.specs.Found.{ProgramScopes}
use Rattle.run_report.specs.Drill.{retired_by}
use Rattle.scope_types.specs.declared.event.EventPeriod.{EventPeriod}
use Rattle.scope_types.specs.Events.{is_retired_alone}
use Rattle.tree_types.specs.declared.content.EventContent.{EventContent}
use Rattle.tree_types.specs.OfContent.{IsEventProfile}
use Rattle.command_line.specs.declared.status.InputFault.{InputFault}
use Rattle.run_profile.specs.declared.merged.Merged.{Merged}
use Rattle.hpc_top.specs.declared.profiling.ProfiledRun.{ProfiledRun}
use Rattle.hpc_top.specs.declared.profiling.ReadJob.{ReadJob}
use Rattle.hpc_top.specs.declared.summary.RunSummary.{RunSummary}
use Rattle.hpc_top.specs.declared.status.Made.{Made}
use Rattle.hpc_top.specs.Made.{product_in}
use Rattle.program_run.specs.Measured.{Measured, lines_of}
use Rattle.run_profile.specs.Merging.{Merging}
use Rattle.command_line.specs.declared.product.Product.{Product}
use Rattle.program_run.specs.Program.{frame_information, program, scheduled}
use Rattle.program_run.specs.Scopes.{program_scopes}
use Rattle.hpc_top.specs.commands.Profile.{Profiled, profiled_program}
use Rattle.run_profile.specs.EventTexts.{lines_of_events, tables_in}
use Rattle.run_profile.specs.Merging.{IsMergeOf}

-- what is told of a measured run: its lines, the line of each event, which is empty where retired is the only event, and
-- how many instructions and samples all harts have
pub record IsSummaryOf (m : Measured) (summary : RunSummary) : Type 0 where
  pub lines : summary.lines ≡ lines_of m
  pub event_lines : summary.event_lines.items ≡ lines_of_events m.events m.samples
  pub many : length summary.event_lines.items ≡ length m.events
  pub alone : is_retired_alone m.events ≡ true → summary.event_lines.items ≡ [] ∷ []
  pub retired : summary.retired ≡ retired_by m.final
  pub samples : summary.samples ≡ length m.samples

-- it is told of, and its samples are merged
pub record IsProfileOf (by : Merging) (p : Profiled) (profiled : ProfiledRun) : Type 0 where
  pub summary : IsSummaryOf p.measured profiled.summary
  pub merged : IsMergeOf by p.attributed profiled.merged
  pub profile : IsEventProfile profiled.merged.content
  pub run : length profiled.merged.content.runs ≡ 1
  pub events : profiled.merged.content.events ≡ p.measured.events
  pub same_events : p.attributed.events ≡ p.measured.events
  pub same_samples : p.attributed.samples ≡ p.measured.samples

-- a run's profile, or its refusal, unless memory ran out
abbrev pub Profiles : Merging → Result ProfiledRun (Fail InputFault) → Result Profiled InputFault → Type 0
Profiles by (Ok profiled) wanted = (p : Profiled) × (wanted ≡ Ok p) × IsProfileOf by p profiled
Profiles by (Err fail) wanted = FailsBy fail wanted

-- database and report of a run and the content of its samples: the database and the tables are the content's, and in the
-- report the tables come after the lines on the run, each after its event's line
pub record IsReportOf (m : Measured) (content : EventContent) (made : Product) : Type 0 where
  pub database : made.stored ≡ events_spelling content
  pub report : made.text ≡ lines_of m ++ tables_in (lines_of_events m.events m.samples) content

-- and the crew of its merge
pub record IsMadeBy (m : Measured) (merged : Merged) (made : Made) : Type 0 where
  pub made_of : IsReportOf m merged.content (product_in made)
  pub crew : made.crew ≡ merged.crew

-- ---- the files of a job

-- what they say: the schedule, the program, its call frame information and its scopes
pub record JobFiles : Type 0 where
  pub slices : Scheduled
  pub image : ProgramImage
  pub described : List FrameDescription
  pub scopes : ProgramScopes

-- the files of a job that were read
abbrev pub files_in : ReadJob → JobFiles
files_in read =
    record {
      slices = read.schedule;
      image = read.image;
      described = descriptions read.table;
      scopes = record { structure = read.structure; lines = read.lines; image = read.image };
    }

-- those of a schedule and a program that were read, or the first refusal of its call frame or debug information
abbrev pub files_from : Scheduled → ProgramImage → Result JobFiles InputFault
files_from slices image = do
  described ← frame_information image
  scopes ← program_scopes image
  Ok (record { slices = slices; image = image; described = described; scopes = scopes })

-- those of a program and a schedule, or their first refusal
abbrev pub files_of : List ℕ → List ℕ → Result JobFiles InputFault
files_of elf schedule = do
  slices ← scheduled schedule
  image ← program elf
  files_from slices image

-- the run that they say, of this input and these events
abbrev pub profiled_files : List ℕ → List EventPeriod → JobFiles → Result Profiled InputFault
profiled_files input events f = profiled_program f.image f.described f.scopes f.slices input events
