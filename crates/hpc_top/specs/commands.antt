-- What each command makes of the contents of its files.
use Rattle.std.specs.Prelude.{ℕ, List, Result}
use Rattle.command_line.specs.declared.request.Command.{Command}
use Rattle.command_line.specs.declared.request.Command.TheVariants as command
use Rattle.command_line.specs.declared.status.InputFault.{InputFault}
use Rattle.command_line.specs.declared.product.Product.{Product}
use Rattle.hpc_top.specs.commands.Profile.{profile_makes}
use Rattle.program_run.specs.commands.Run.{run_makes}
use Rattle.hpc_top.specs.commands.Prof.{prof_makes}
use Rattle.program_run.specs.commands.Structure.{struct_makes}
use Rattle.run_profile.specs.commands.View.{view_makes}
use Rattle.hpc_top.specs.commands.Drill.{drill_makes}
use Rattle.hpc_top.specs.commands.Merge.{merge_makes}
use Rattle.program_run.specs.commands.Trace.{trace_makes}
use Rattle.program_run.specs.commands.Timeline.{timeline_makes}
use Rattle.run_profile.specs.commands.Stats.{stats_makes}
pub mod Profile
pub mod Prof
pub mod Drill
pub mod Merge

-- what a command makes of the contents of its files, which come in the order in which they are wanted. `live` makes what
-- `profile` makes: the length of an epoch and the number of workers have no part in it
abbrev pub makes : Command → List (List ℕ) → Result Product InputFault
makes (command.Profile events workers) texts = profile_makes events texts
makes (command.Run events) texts = run_makes events texts
makes (command.Prof workers) texts = prof_makes texts
makes command.Struct texts = struct_makes texts
makes (command.View table event) texts = view_makes table event texts
makes (command.Drill number workers) texts = drill_makes number texts
makes (command.Merge workers runs) texts = merge_makes texts
makes (command.Live events workers epoch) texts = profile_makes events texts
makes (command.Trace period) texts = trace_makes period texts
makes (command.Timeline depth cells) texts = timeline_makes depth cells texts
makes (command.Stats kind event) texts = stats_makes kind event texts
