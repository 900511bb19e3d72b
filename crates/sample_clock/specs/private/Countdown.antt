-- What a clock keeps of each event, and of each hart for it: definitions that only its proofs rest on.
use Rattle.std.specs.Prelude.{◌≡◌, ℕ, zero, suc, ◌+◌, ◌-◌, ◌≤◌, ◌<◌, ◌%◌, ◌^◌, ◌==◌, Bool, false, List, [], ◌∷◌}
use Rattle.std.specs.Prelude.{length, slice_index, Option, Some, None, if◌then◌else◌}
use Rattle.std.specs.List.{slice_index_or}
use Rattle.scope_types.specs.declared.event.Event.{Event}
use Rattle.scope_types.specs.declared.event.Event.TheVariants.{Retired, Loads, Stores, Taken}
use Rattle.scope_types.specs.declared.event.EventPeriod.{EventPeriod}
use Rattle.scope_types.specs.Events.{event_number, AreEvents, is_retired_alone}
use Rattle.scope_types.specs.Limits.{most_harts}
use Rattle.rv_hart.specs.declared.counting.EventsLeft.{EventsLeft}
use Rattle.rv_hart.specs.Events.{left_of}
use Rattle.rv_run.specs.Schedule.{most_instructions}
use Rattle.rv_run.specs.State.{MachineState, hart_of}
use Rattle.sample_clock.specs.Clock.{Since}

-- ---- retired

-- the period of an event that is retired
abbrev pub period_if_retired : Event → ℕ → Option ℕ
period_if_retired Retired period = Some period
period_if_retired event period = None

-- the period of retired, which is the first of the events where it is one of them
abbrev pub retired_period : List EventPeriod → Option ℕ
retired_period [] = None
retired_period (first ∷ rest) = period_if_retired first.event first.period

-- the ordinal of a hart's next sample of retired: the least multiple of the period above what it retired
pub record IsNext (period retired next : ℕ) : Type 0 where
  pub multiple : next % period ≡ 0
  pub above : retired < next
  pub least : next ≤ retired + period

-- how many instructions a hart may retire before one that is sampled for retired, where the next one has this ordinal
pub record IsUntil (events : List EventPeriod) (ordinal until : ℕ) : Type 0 where
  pub multiple : (period : ℕ) → retired_period events ≡ Some period → (ordinal + until) % period ≡ 0
  pub least : (period : ℕ) → retired_period events ≡ Some period → until < period
  pub some : retired_period events ≡ None → 0 < until

-- that ordinal after an instruction: one period more where the instruction had it
abbrev pub next_after : Option ℕ → ℕ → ℕ → ℕ
next_after None ordinal next = next
next_after (Some period) ordinal next = if next == ordinal then ordinal + period else next

-- ---- the other events

-- how many of an event there may be right after one that is sampled; and of an event that is not sampled, as many as a
-- run may have
abbrev pub left_for : Event → List EventPeriod → ℕ
left_for event [] = most_instructions
left_for event (first ∷ rest) =
    if event_number first.event == event_number event then first.period - 1 else left_for event rest

-- the same for each event
abbrev pub full_of : List EventPeriod → EventsLeft
full_of events =
    record { loads = left_for Loads events; stores = left_for Stores events; taken = left_for Taken events }

-- one less, or as many as right after a sample where none was left
abbrev pub one_less : ℕ → ℕ → ℕ
one_less full zero = full
one_less full (suc left) = left

-- what is left after one more instruction with this event beside retired
abbrev pub left_after : EventsLeft → Option Event → EventsLeft → EventsLeft
left_after full None left = left
left_after full (Some Retired) left = left
left_after full (Some Loads) left = record left { loads = one_less full.loads left.loads }
left_after full (Some Stores) left = record left { stores = one_less full.stores left.stores }
left_after full (Some Taken) left = record left { taken = one_less full.taken left.taken }

-- whether none of an event is left; retired is not counted so
abbrev pub is_used_up : EventsLeft → Event → Bool
is_used_up left Retired = false
is_used_up left Loads = left.loads == 0
is_used_up left Stores = left.stores == 0
is_used_up left Taken = left.taken == 0

-- the place of an event in a list whose first place is this one
unfoldable pub place_from : Event → ℕ → List EventPeriod → Option ℕ
place_from event from [] = None
place_from event from (first ∷ rest) =
    if event_number first.event == event_number event then Some from else place_from event (from + 1) rest

-- the event that an instruction has beside retired, where none of it was left
abbrev pub used_up : EventsLeft → Option Event → Option Event
used_up left None = None
used_up left (Some event) = if is_used_up left event then Some event else None

-- the place of an event, if there is one
abbrev pub place_of : Option Event → List EventPeriod → Option ℕ
place_of None events = None
place_of (Some event) events = place_from event 0 events

-- ---- all of them

-- how many of each event a hart had since its last sample, by how many there may be between samples and how many are
-- left
abbrev pub since_of : EventsLeft → EventsLeft → Since
since_of full left =
    record { loads = full.loads - left.loads; stores = full.stores - left.stores; taken = full.taken - left.taken }

-- what is left of an event is at most what there may be, and lacks at most what the hart retired
pub record IsLeft (s : MachineState) (full : EventsLeft) (left : List EventsLeft) (hart : ℕ)
    (event : Event) : Type 0 where
  pub low : left_of full event ≤ left_of (slice_index_or left hart full) event + (hart_of s hart).retired
  pub high : left_of (slice_index_or left hart full) event ≤ left_of full event

-- a clock knows what each hart lacks of each event until the next sample
pub record IsClock (s : MachineState) (events : List EventPeriod) (retired : Option ℕ) (is_alone : Bool)
    (full : EventsLeft) (next : List ℕ) (left : List EventsLeft) : Type 0 where
  pub are : AreEvents events
  pub retired_is : retired ≡ retired_period events
  pub alone : is_alone ≡ is_retired_alone events
  pub full_is : full ≡ full_of events
  pub fits : (period : ℕ) → retired ≡ Some period → period < 2 ^ 32
  pub few : length s.harts ≤ most_harts
  pub harts : length s.harts ≤ length next
  pub lefts : length s.harts ≤ length left
  pub nexts : (period hart : ℕ) → retired ≡ Some period → hart < length s.harts
      → IsNext period (hart_of s hart).retired (slice_index next hart)
  pub each_left : (hart : ℕ) (event : Event) → hart < length s.harts → IsLeft s full left hart event
