-- `live` makes what `profile` makes.
use Rattle.std.specs.Prelude.{◌≡◌, ℕ, List}
use Rattle.prof_devices.specs.Files.{Files}
use Rattle.scope_types.specs.declared.event.EventPeriod.{EventPeriod}
use Rattle.command_line.specs.declared.request.Command.TheVariants.{Live, Profile}
use Rattle.command_line.specs.Request.{Request}
use Rattle.hpc_top.specs.Verdict.{verdict}

-- of the same files `live` has the verdict of `profile`, whatever the length of an epoch and the numbers of workers
abbrev pub LiveIsProfile : Type 0
LiveIsProfile = (request : Request) (files : Files) (events : List EventPeriod) (epoch workers others : ℕ)
    → verdict (record request { command = Live events workers epoch }) files
    ≡ verdict (record request { command = Profile events others }) files
