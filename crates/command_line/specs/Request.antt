-- What a command line may ask for: a command with its numbers, and its files.
use Rattle.std.specs.Prelude.{◌≡◌, ◌≤◌, ℕ, List, [], ◌∷◌, map, replicate, Option}
use Rattle.std.specs.Option.{option_copied}
use Rattle.scope_types.specs.Events.{AreEvents}
use Rattle.scope_types.specs.Limits.{least_epoch, most_epoch, most_runs, most_workers}
use Rattle.command_line.specs.declared.kind.FileKind.{FileKind}
use Rattle.command_line.specs.declared.kind.FileKind.TheVariants as kinds
use Rattle.command_line.specs.declared.request.Command.{Command}
use Rattle.command_line.specs.declared.request.Command.TheVariants.{Profile, Run, Prof, Struct, View}
use Rattle.command_line.specs.declared.request.Command.TheVariants.{Drill, Merge, Live, Trace, Timeline, Stats}
use Rattle.command_line.specs.declared.request.Request as held
use Rattle.command_line.specs.Kind.{Wanted, kinds_of, view_want}

-- a command, the files that it reads, in their order, and the name of the file that it stores, where it stores one
pub record Request : Type 0 where
  pub command : Command
  pub reads : List Wanted
  pub stores : Option (List ℕ)

-- a request, as the code holds it
abbrev pub view_request : held.Request → Request
view_request r = record { command = r.command; reads = map view_want r.reads; stores = option_copied r.stores }

-- at least one worker, and at most as many as may merge
abbrev pub AreWorkers : ℕ → Type 0
AreWorkers workers = (1 ≤ workers) × (workers ≤ most_workers)

-- the most procedures of a call path that a timeline counts, from the outermost on
abbrev pub most_depth : ℕ
most_depth = 64

-- the most cells of a hart that a timeline has
abbrev pub most_cells : ℕ
most_cells = 512

-- a depth from 1, and at least one cell, within their bounds
abbrev pub IsLook : ℕ → ℕ → Type 0
IsLook depth cells = (1 ≤ depth) × (depth ≤ most_depth) × (1 ≤ cells) × (cells ≤ most_cells)

-- the events are those that a run may have, and the numbers are within their bounds
abbrev pub IsCommand : Command → Type 0
IsCommand (Profile periods workers) = AreEvents periods × AreWorkers workers
IsCommand (Run periods) = AreEvents periods
IsCommand (Prof workers) = AreWorkers workers
IsCommand Struct = Unit {0}
IsCommand (View table event) = Unit {0}
IsCommand (Drill number workers) = AreWorkers workers
IsCommand (Merge workers runs) = AreWorkers workers × (1 ≤ runs) × (runs ≤ most_runs)
IsCommand (Live periods workers epoch) =
    AreEvents periods × AreWorkers workers × (least_epoch ≤ epoch) × (epoch ≤ most_epoch)
IsCommand (Trace period) = 1 ≤ period
IsCommand (Timeline depth cells) = IsLook depth cells
IsCommand (Stats kind event) = Unit {0}

-- the kinds of the files that a command reads, in their order
abbrev pub kinds_read : Command → List FileKind
kinds_read (Profile periods workers) = kinds.Program ∷ kinds.Input ∷ kinds.Schedule ∷ []
kinds_read (Run periods) = kinds.Program ∷ kinds.Input ∷ kinds.Schedule ∷ []
kinds_read (Prof workers) = kinds.Program ∷ kinds.Measurement ∷ []
kinds_read Struct = kinds.Program ∷ []
kinds_read (View table event) = kinds.Database ∷ []
kinds_read (Drill number workers) = []
kinds_read (Merge workers runs) = kinds.Program ∷ replicate runs kinds.Measurement
kinds_read (Live periods workers epoch) = kinds.Program ∷ kinds.Input ∷ kinds.Schedule ∷ []
kinds_read (Trace period) = kinds.Program ∷ kinds.Input ∷ kinds.Schedule ∷ []
kinds_read (Timeline depth cells) = kinds.Program ∷ kinds.Trace ∷ []
kinds_read (Stats kind event) = kinds.Database ∷ []

-- the numbers are within their bounds, and the files are of the command's kinds
pub record IsValid (r : Request) : Type 0 where
  pub numbers : IsCommand r.command
  pub files : kinds_of r.reads ≡ kinds_read r.command
