-- What a clock does at a time: definitions that only its proofs rest on.
use Rattle.std.specs.Prelude.{◌≡◌, ◌≢◌, ℕ, ◌+◌, ◌≤◌, ◌<◌, ◌%◌, Bool, true, false, List, [], ◌∷◌, length, map}
use Rattle.std.specs.Prelude.{Option, Some, None, Result, Ok, Err, option_to_list}
use Rattle.std.specs.List.{AllByRecursion}
use Rattle.prof_bytes.specs.declared.fail.Fail.{Fail}
use Rattle.prof_bytes.specs.declared.fail.Fail.TheVariants as fails
use Rattle.prof_bytes.specs.declared.fail.Memory.{Memory}
use Rattle.scope_types.specs.Events.{is_retired_alone}
use Rattle.scope_types.specs.Limits.{most_samples}
use Rattle.scope_types.specs.Raw.{Raw}
use Rattle.rv_run.specs.Schedule.{most_instructions}
use Rattle.rv_run.specs.State.{hart_of}
use Rattle.rv_run.specs.Run.{Instant, instant, finished, preceded}
use Rattle.rv_run.specs.Progress.{first_upcoming, hart_event, to_come}
use Rattle.sample_clock.specs.declared.clock.Advance.{Advance}
use Rattle.sample_clock.specs.declared.clock.Advance.TheVariants as advances
use Rattle.sample_clock.specs.declared.clock.TooManySamples.{TooManySamples}
use Rattle.sample_clock.specs.declared.clock.Sample.{Sample}
use Rattle.sample_clock.specs.declared.coming.Coming.{Coming}
use Rattle.sample_clock.specs.Samples.{Paths, count_of, sampled_places, samples_at}
use Rattle.sample_clock.specs.Clock.{Sampling, earlier_of, samples_now, samples_to_come}

-- ---- the samples of one instruction

-- the places of the events for which an instruction is sampled, of which retired has the first
abbrev pub places_of : Bool → Option ℕ → List ℕ
places_of true place = 0 ∷ option_to_list place
places_of false place = option_to_list place

-- the place of the first of these events
abbrev pub first_place : Bool → Option ℕ → ℕ
first_place true place = 0
first_place false None = 0
first_place false (Some place) = place

-- the sample of an instruction for the event at a place, with the call path before it
abbrev pub coming_sample : Coming → Raw → ℕ → Sample
coming_sample c path place = record { hart = c.hart; event = place; ordinal = c.ordinal; path = path }

-- the sample for the first of these events
abbrev pub first_sample : Coming → Raw → Sample
first_sample c path = coming_sample c path (first_place c.is_retired_due c.place)

-- those for all events
abbrev pub coming_samples : Coming → Raw → List Sample
coming_samples c path = map (coming_sample c path) (places_of c.is_retired_due c.place)

-- the sample for the second of these events, if there is one
abbrev pub second_sample : Coming → Bool → Option ℕ → Raw → Option Sample
second_sample c true (Some place) path = Some (coming_sample c path place)
second_sample c true None path = None
second_sample c false place path = None

-- ---- one instruction, and several

-- what is known of the instruction that is next
pub record IsComing (c : Coming) (s : Sampling) : Type 0 where
  pub hart : c.hart < length s.machine.state.harts
  pub few : c.ordinal ≤ most_instructions
  pub is :
      Some (record { hart = c.hart; pc = c.pc; ordinal = c.ordinal }) ≡ first_upcoming (to_come s.machine).instants
  pub extra : is_retired_alone s.events ≡ false → c.extra ≡ hart_event c.hart s.machine.state
  pub places :
      sampled_places (earlier_of s) s.events (record { before = []; instant = instant c.hart s.machine.state true })
      ≡ places_of c.is_retired_due c.place

-- the counts of events are more by some instructions, but for multiples of the periods
abbrev pub GoOn : List Instant → Sampling → Sampling → Type 0
GoOn passed old new =
    AllByRecursion (λ e. (hart : ℕ)
    → (earlier_of old e.event hart + count_of e.event hart passed) % e.period
    ≡ earlier_of new e.event hart % e.period)
    old.events

-- the machine carried out these instructions, and nothing was given
pub record Passes (passed : List Instant) (old new : Sampling) : Type 0 where
  pub run : to_come old.machine ≡ preceded passed (to_come new.machine)
  pub counts : GoOn passed old new
  pub events : new.events ≡ old.events
  pub pending : new.pending ≡ old.pending
  pub met : new.met ≡ old.met

-- the next instruction was carried out, and retired or not
pub record CarriedOut (c : Coming) (is_retired : Bool) (old new : Sampling) : Type 0 where
  pub passes : Passes (instant c.hart old.machine.state is_retired ∷ []) old new
  pub ordinal_is : c.ordinal ≡ (hart_of old.machine.state c.hart).retired + 1
  pub pc_is : c.pc ≡ (hart_of old.machine.state c.hart).pc

-- some instructions were carried out of which none is sampled
pub record Quiet (path_of : Paths) (old new : Sampling) : Type 0 where
  pub passed : List Instant
  pub passes : Passes passed old new
  pub none : samples_now path_of old passed ≡ []

-- one instruction was carried out that is sampled: here is its first sample, which is not counted yet, and others are
-- pending
pub record OneSampled (path_of : Paths) (sample : Sample) (old new : Sampling) : Type 0 where
  pub instant : Instant
  pub run : to_come old.machine ≡ preceded (instant ∷ []) (to_come new.machine)
  pub sampled : samples_at path_of (earlier_of old) old.events (record { before = []; instant = instant }) ≢ []
  pub come : samples_to_come path_of old ≡ sample ∷ samples_to_come path_of new
  pub events : new.events ≡ old.events
  pub met : new.met ≡ old.met

-- the run has ended
pub record Ended (old new : Sampling) : Type 0 where
  pub ended : to_come old.machine ≡ finished old.machine.state
  pub same : new ≡ old

-- nothing was done: the next instruction is sampled if it retires
pub record IsSampledNext (c : Coming) (old new : Sampling) : Type 0 where
  pub coming : IsComing c old
  pub sampled : places_of c.is_retired_due c.place ≢ []
  pub same : new ≡ old

-- what comes next of a run, up to an instruction that is sampled if it retires: where the run goes on and no such
-- instruction is next, at least one was carried out
abbrev pub Advances : Paths → Result Advance Memory → Sampling → Sampling → Type 0
Advances path_of (Ok advances.End) old new = Ended old new
Advances path_of (Ok advances.Unsampled) old new = (q : Quiet path_of old new) × (0 < length q.passed)
Advances path_of (Ok (advances.Due coming)) old new = IsSampledNext coming old new
Advances path_of (Err memory) old new = Quiet path_of old new

-- that instruction was carried out, and the call path before it is given if it retired
abbrev pub SamplesNext : Paths → Coming → Result (Option Raw) Memory → Sampling → Sampling → Type 0
SamplesNext path_of c (Ok (Some path)) old new = OneSampled path_of (first_sample c path) old new
SamplesNext path_of c (Ok None) old new = (q : Quiet path_of old new) × (0 < length q.passed)
SamplesNext path_of c (Err memory) old new = Quiet path_of old new

-- with these samples pending
abbrev pub with_pending : List Sample → Sampling → Sampling
with_pending pending s = record s { pending = pending }

-- ---- the next sample

-- no sample was met, and there may be more
pub record NoneMet (path_of : Paths) (old new : Sampling) : Type 0 where
  pub quiet : Quiet path_of old new
  pub pending : old.pending ≡ []
  pub few : old.met ≤ most_samples

-- one more sample was met, and nothing else has changed
abbrev pub with_one_met : Sampling → Sampling
with_one_met s = record s { met = s.met + 1 }

-- a sample is given, unless it is one too many
abbrev pub IsMet : Sample → Result (Option Sample) (Fail TooManySamples) → Sampling → Type 0
IsMet sample (Ok (Some given)) new = (given ≡ sample) × (new.met ≤ most_samples)
IsMet sample (Ok None) new = ⊥
IsMet sample (Err (fails.Fault fault)) new = new.met ≡ most_samples + 1
IsMet sample (Err (fails.Memory memory)) new = ⊥
