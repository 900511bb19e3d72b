-- The samples of a run that is under way, as they are counted.
use Rattle.std.specs.Prelude.{◌≡◌, ◌<◌, ℕ, List, All, length, map}
use Rattle.std.specs.Prelude.{Option, Some, None, Result, Ok, Err}
use Rattle.prof_bytes.specs.declared.fail.Fail.{Fail}
use Rattle.prof_bytes.specs.declared.fail.Fail.TheVariants as fails
use Rattle.prof_bytes.specs.Outcome.{FailsBy}
use Rattle.rv_run.specs.Progress.{to_come}
use Rattle.sample_clock.specs.declared.clock.Sample.{Sample}
use Rattle.sample_clock.specs.Samples.{Paths, samples}
use Rattle.sample_clock.specs.Clock.{Sampling, Given, IsOver, AreTooMany, samples_to_come}
use Rattle.scope_types.specs.declared.event.EventPeriod.{EventPeriod}
use Rattle.scope_types.specs.declared.frame.Counted.{Counted}
use Rattle.scope_types.specs.Distinct.{ColumnRaw, distinct, samples_in}
use Rattle.command_line.specs.declared.status.InputFault.{InputFault}
use Rattle.command_line.specs.declared.status.InputFault.TheVariants.{TooManySamples}
use Rattle.program_run.specs.Samples.{column_raw, few_samples}

-- ---- counting

-- the samples that are to come
abbrev pub raws_to_come : Paths → Sampling → List ColumnRaw
raws_to_come path_of s = map (column_raw (length s.events)) (samples_to_come path_of s)

-- the clock of a run that has not begun, of which these events are sampled
pub record IsStart (sampled : List EventPeriod) (s : Sampling) : Type 0 where
  pub events : s.events ≡ sampled
  pub met : s.met ≡ 0
  pub all : (path_of : Paths) → samples_to_come path_of s ≡ samples path_of sampled (to_come s.machine).instants

-- one more than there may be
pub record Exceeds (path_of : Paths) (fault : InputFault) (old new : Sampling) : Type 0 where
  pub is : fault ≡ TooManySamples
  pub many : AreTooMany path_of old new

-- why counting stops: there is one sample more than there may be, or memory ran out
abbrev pub Stops : Paths → Fail InputFault → Sampling → Sampling → Type 0
Stops path_of (fails.Fault fault) old new = Exceeds path_of fault old new
Stops path_of (fails.Memory memory) old new = Unit {0}

-- the next sample, of the same events
pub record GivesOne (path_of : Paths) (sample : Sample) (old new : Sampling) : Type 0 where
  pub given : Given path_of sample old new
  pub events : new.events ≡ old.events

-- the next sample, or none
abbrev pub GivesNext : Paths → Result (Option Sample) (Fail InputFault) → Sampling → Sampling → Type 0
GivesNext path_of (Ok (Some sample)) old new = GivesOne path_of sample old new
GivesNext path_of (Ok None) old new = IsOver path_of old new
GivesNext path_of (Err fail) old new = Stops path_of fail old new

-- all samples were counted, which are of a given number of columns, and the machine stands at the end of its run
pub record AllCounted (path_of : Paths) (columns : ℕ) (ccts : List (List Counted)) (old new : Sampling) : Type 0 where
  pub few : few_samples columns (raws_to_come path_of old) ≡ Ok (raws_to_come path_of old)
  pub counts : ccts ≡ distinct columns (raws_to_come path_of old)
  pub all : samples_in ccts ≡ length (raws_to_come path_of old)
  pub own : All (λ s. s.column < columns) (raws_to_come path_of old)
  pub ended : new.machine.state ≡ (to_come old.machine).final

-- what counting the samples gives
abbrev pub Collects : Paths → ℕ → Result (List (List Counted)) (Fail InputFault) → Sampling → Sampling → Type 0
Collects path_of columns (Ok ccts) old new = AllCounted path_of columns ccts old new
Collects path_of columns (Err fail) old new = FailsBy fail (few_samples columns (raws_to_come path_of old))
