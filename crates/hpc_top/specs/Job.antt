-- Which jobs are carried out.
use Rattle.std.specs.Prelude.{◌≤◌, length}
use Rattle.hpc_top.specs.declared.commands.profile.Job.{Job}
use Rattle.scope_types.specs.Events.{AreEvents}
use Rattle.scope_types.specs.Limits.{most_workers}
use Rattle.command_line.specs.Kind.{program_limit, schedule_limit}

-- the program and the schedule are within their limits, the events are such as a run may have, and there is at least
-- one worker and at most as many as a command may have
pub record IsJob (job : Job) : Type 0 where
  pub program : length job.elf.now ≤ program_limit
  pub schedule : length job.schedule.now ≤ schedule_limit
  pub events : AreEvents job.periods.now
  pub some : 1 ≤ job.workers
  pub workers : job.workers ≤ most_workers
