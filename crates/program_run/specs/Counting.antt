-- A run whose samples were counted.
use Rattle.std.specs.Prelude.{◌≡◌, ◌<◌, ◌≤◌, List, All, length, Result, Ok, Err}
use Rattle.prof_bytes.specs.declared.fail.Fail.{Fail}
use Rattle.prof_bytes.specs.Outcome.{FailsBy}
use Rattle.scope_types.specs.declared.event.EventPeriod.{EventPeriod}
use Rattle.scope_types.specs.Distinct.{distinct, samples_in}
use Rattle.scope_types.specs.Limits.{most_harts}
use Rattle.command_line.specs.declared.status.InputFault.{InputFault}
use Rattle.program_run.specs.declared.counting.CountedRun.{CountedRun}
use Rattle.program_run.specs.Measured.{Measured}
use Rattle.program_run.specs.Samples.{run_columns}

-- its events and harts are the measured ones, its paths are those of the measured samples, and the machine is the
-- measured one
pub record IsCount (events : List EventPeriod) (m : Measured) (run : CountedRun) : Type 0 where
  pub same : m.events ≡ events
  pub some : 0 < m.harts
  pub few : m.harts ≤ most_harts
  pub harts : run.harts ≡ m.harts
  pub columns : length run.ccts ≡ run_columns m.events m.harts
  pub counts : run.ccts ≡ distinct (run_columns m.events m.harts) m.samples
  pub all : samples_in run.ccts ≡ length m.samples
  pub own : All (λ s. s.column < run_columns m.events m.harts) m.samples
  pub final : run.samples.machine.state ≡ m.final
  pub ends : m.harts ≡ length m.final.harts

-- a run is counted as it is measured, or its refusal, unless memory ran out
abbrev pub Counts : List EventPeriod → Result CountedRun (Fail InputFault) → Result Measured InputFault → Type 0
Counts events (Ok run) wanted = (m : Measured) × (wanted ≡ Ok m) × IsCount events m run
Counts events (Err fail) wanted = FailsBy fail wanted
