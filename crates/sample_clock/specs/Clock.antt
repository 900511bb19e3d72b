-- A run that is sampled while it is under way: the samples that are still to come, and what is answered
-- where the next one is asked for.
use Rattle.std.specs.Prelude.{◌≡◌, ◌≢◌, ℕ, ◌+◌, ◌≤◌, ◌<◌, ◌⊎◌, List, [], ◌∷◌, ◌++◌, length, Option, Some, None}
use Rattle.std.specs.Prelude.{Result, Ok, Err}
use Rattle.std.specs.List.{slice_index_or}
use Rattle.prof_bytes.specs.declared.fail.Fail.{Fail}
use Rattle.prof_bytes.specs.declared.fail.Fail.TheVariants as fails
use Rattle.scope_types.specs.declared.event.Event.TheVariants.{Retired, Loads, Stores, Taken}
use Rattle.scope_types.specs.declared.event.EventPeriod.{EventPeriod}
use Rattle.scope_types.specs.Limits.{most_samples}
use Rattle.rv_run.specs.State.{hart_of}
use Rattle.rv_run.specs.Run.{Instant, finished, preceded}
use Rattle.rv_run.specs.Progress.{Progress, to_come}
use Rattle.sample_clock.specs.declared.clock.Sample.{Sample}
use Rattle.sample_clock.specs.declared.clock.TooManySamples.{TooManySamples}
use Rattle.sample_clock.specs.Samples.{Paths, Earlier, samples_after, samples_at}

-- how many loads, stores and taken branches a hart had since the last of each that was sampled
pub record Since : Type 0 where
  pub loads : ℕ
  pub stores : ℕ
  pub taken : ℕ

-- a machine that is sampled; the events with their periods; how many of these each hart had since their last samples;
-- the samples of the last instruction that were not given yet; and how many samples were met so far: those that were
-- given, and one more where that is too many
pub record Sampling : Type 0 where
  pub machine : Progress
  pub events : List EventPeriod
  pub since : List Since
  pub pending : List Sample
  pub met : ℕ

-- none of each
abbrev pub none_since : Since
none_since = record { loads = 0; stores = 0; taken = 0 }

-- how many instructions of an event a hart had: of retired all; and of another event those since its last sample, which
-- leave the same remainder by the period
abbrev pub earlier_of : Sampling → Earlier
earlier_of s Retired hart = (hart_of s.machine.state hart).retired
earlier_of s Loads hart = (slice_index_or s.since hart none_since).loads
earlier_of s Stores hart = (slice_index_or s.since hart none_since).stores
earlier_of s Taken hart = (slice_index_or s.since hart none_since).taken

-- the samples of instructions that come now
abbrev pub samples_now : Paths → Sampling → List Instant → List Sample
samples_now path_of s instants = samples_after path_of (earlier_of s) s.events instants

-- the samples that are still to come
abbrev pub samples_to_come : Paths → Sampling → List Sample
samples_to_come path_of s = s.pending ++ samples_now path_of s (to_come s.machine).instants

-- ---- the answer

-- the next sample is given
pub record Given (path_of : Paths) (sample : Sample) (old new : Sampling) : Type 0 where
  pub to_come : samples_to_come path_of old ≡ sample ∷ samples_to_come path_of new
  pub met : new.met ≡ old.met + 1
  pub few : new.met ≤ most_samples

-- no sample is left, and the run has ended
pub record IsOver (path_of : Paths) (old new : Sampling) : Type 0 where
  pub none : samples_to_come path_of old ≡ []
  pub ended : to_come new.machine ≡ finished new.machine.state
  pub met : new.met ≡ old.met
  pub few : old.met ≤ most_samples

-- as many samples as there may be were met, and one more: now, or before
pub record AreTooMany (path_of : Paths) (old new : Sampling) : Type 0 where
  pub full : most_samples ≤ old.met
  pub over : new.met ≡ most_samples + 1
  pub all : new.met + length (samples_to_come path_of new) ≡ old.met + length (samples_to_come path_of old)

-- memory ran out, and no sample is lost
pub record NoneLost (path_of : Paths) (old new : Sampling) : Type 0 where
  pub to_come : samples_to_come path_of new ≡ samples_to_come path_of old
  pub met : new.met ≡ old.met
  pub few : old.met ≤ most_samples

-- no sample is given
abbrev pub RefusesSample : Paths → Fail TooManySamples → Sampling → Sampling → Type 0
RefusesSample path_of (fails.Fault fault) old new = AreTooMany path_of old new
RefusesSample path_of (fails.Memory memory) old new = NoneLost path_of old new

-- what is answered where the next sample is asked for
abbrev pub AnswersNext : Paths → Result (Option Sample) (Fail TooManySamples) → Sampling → Sampling → Type 0
AnswersNext path_of (Ok (Some sample)) old new = Given path_of sample old new
AnswersNext path_of (Ok None) old new = IsOver path_of old new
AnswersNext path_of (Err fail) old new = RefusesSample path_of fail old new

-- ---- what the machine carried out

-- the machine carried out some instructions of which none is sampled
pub record Unsampled (path_of : Paths) (old new : Sampling) : Type 0 where
  pub passed : List Instant
  pub run : to_come old.machine ≡ preceded passed (to_come new.machine)
  pub none : samples_now path_of old passed ≡ []
  pub events : new.events ≡ old.events

-- it carried out such instructions, and then one that is sampled
pub record Met (path_of : Paths) (old new : Sampling) : Type 0 where
  pub passed : List Instant
  pub instant : Instant
  pub run : to_come old.machine ≡ preceded passed (preceded (instant ∷ []) (to_come new.machine))
  pub none : samples_now path_of old passed ≡ []
  pub sampled :
      samples_at path_of (earlier_of old) old.events (record { before = passed; instant = instant }) ≢ []
  pub events : new.events ≡ old.events

-- nothing is carried out where the last instruction has one more sample
pub record WasPending (old new : Sampling) : Type 0 where
  pub some : old.pending ≢ []
  pub machine : new.machine ≡ old.machine
  pub events : new.events ≡ old.events

-- the sample that is met is of an instruction that is carried out now, or of the last one
abbrev pub MeetsSample : Paths → Sampling → Sampling → Type 0
MeetsSample path_of old new = Met path_of old new ⊎ WasPending old new

-- nothing is done where too many were met before
pub record WasMet (old new : Sampling) : Type 0 where
  pub over : most_samples < old.met
  pub same : new ≡ old

-- where no sample is given
abbrev pub FailsAt : Paths → Fail TooManySamples → Sampling → Sampling → Type 0
FailsAt path_of (fails.Fault fault) old new = MeetsSample path_of old new ⊎ WasMet old new
FailsAt path_of (fails.Memory memory) old new = Unsampled path_of old new

-- right after the sampled instruction; at the end of the run; or before the instruction that found no memory
abbrev pub Reaches : Paths → Result (Option Sample) (Fail TooManySamples) → Sampling → Sampling → Type 0
Reaches path_of (Ok (Some sample)) old new = MeetsSample path_of old new
Reaches path_of (Ok None) old new = Unsampled path_of old new
Reaches path_of (Err fail) old new = FailsAt path_of fail old new
