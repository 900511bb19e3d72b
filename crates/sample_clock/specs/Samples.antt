-- Samples of a run (HPCToolkit's manual, "Sampling"): of each event, every so many of a hart's instructions that have
-- it, each with the call path of the state before it.
use Rattle.std.specs.Prelude.{ℕ, ◌+◌, ◌%◌, ◌==◌, ◌&&◌, Bool, true, false, List, [], ◌∷◌, ◌++◌, Option, Some, None}
use Rattle.std.specs.Prelude.{map, filter, flat_map, count_by, length, Contains, ◌≡◌, ◌<◌}
use Rattle.std.specs.List.{enumerate_from}
use Rattle.scope_types.specs.declared.event.Event.{Event}
use Rattle.scope_types.specs.declared.event.Event.TheVariants.{Retired}
use Rattle.scope_types.specs.declared.event.EventPeriod.{EventPeriod}
use Rattle.scope_types.specs.Events.{event_number}
use Rattle.scope_types.specs.Raw.{Raw}
use Rattle.rv_memory.specs.AddressSpace.{AddressSpace, loaded}
use Rattle.rv_run.specs.Run.{Instant}
use Rattle.rv_run.specs.Progress.{instant_event}
use Rattle.sample_clock.specs.declared.clock.Sample.{Sample}

-- the call path of a pc and registers, over a memory of these words
abbrev pub Paths : Type 0
Paths = ℕ → List ℕ → (ℕ → Option ℕ) → Raw

-- the words of a memory, at each address
abbrev pub words_of : AddressSpace → ℕ → Option ℕ
words_of memory at = loaded memory at 4

-- ---- which events an instruction has

-- an event is one of an instruction that retired: each of these has retired, and one other event at most beside it
abbrev pub is_of : Event → Option Event → Bool
is_of Retired extra = true
is_of event None = false
is_of event (Some extra) = event_number event == event_number extra

-- an instruction has an event
abbrev pub has_event : Event → Instant → Bool
has_event event i = i.moment.retired && is_of event (instant_event i)

-- it is an instruction of this hart and has the event
abbrev pub is_counted : Event → ℕ → Instant → Bool
is_counted event hart i = (i.moment.hart == hart) && has_event event i

-- how many instructions of a hart have an event
abbrev pub count_of : Event → ℕ → List Instant → ℕ
count_of event hart instants = count_by (is_counted event hart) instants

-- ---- which instructions are sampled

-- how many instructions of each event each hart had before some other instructions: by the event and the hart
abbrev pub Earlier : Type 0
Earlier = Event → ℕ → ℕ

-- before a run there were none
abbrev pub none_earlier : Earlier
none_earlier event hart = 0

-- an instruction, and those that come before it
pub record Placed : Type 0 where
  pub before : List Instant
  pub instant : Instant

-- instructions that come after others, each with all that come before it
unfoldable pub placed : List Instant → List Instant → List Placed
placed before [] = []
placed before (i ∷ rest) = record { before = before; instant = i } ∷ placed (before ++ i ∷ []) rest

-- the ordinal of an instruction for an event: its number among its hart's instructions that have the event, from 1
abbrev pub ordinal : Earlier → Event → Placed → ℕ
ordinal earlier event p =
    earlier event p.instant.moment.hart + count_of event p.instant.moment.hart p.before + 1

-- an instruction is sampled for an event that it has, where its ordinal for it is a multiple of the event's period
abbrev pub is_sampled : Earlier → Placed → EventPeriod → Bool
is_sampled earlier p e = has_event e.event p.instant && (ordinal earlier e.event p % e.period == 0)

-- the places, in the list of events, of those for which an instruction is sampled; the first has the place 0
abbrev pub sampled_places : Earlier → List EventPeriod → Placed → List ℕ
sampled_places earlier events p = map (λ e. e.0) (filter (λ e. is_sampled earlier p e.1) (enumerate_from 0 events))

-- ---- the samples

-- the sample of an instruction for the event at a place of the list
abbrev pub sample_of : Paths → Instant → ℕ → Sample
sample_of path_of i place =
    let path = path_of i.moment.pc i.registers (words_of i.memory) in
    record { hart = i.moment.hart; event = place; ordinal = i.moment.ordinal; path = path }

-- the samples of an instruction, in the order of the events
abbrev pub samples_at : Paths → Earlier → List EventPeriod → Placed → List Sample
samples_at path_of earlier events p = map (sample_of path_of p.instant) (sampled_places earlier events p)

-- the samples of instructions, in order
abbrev pub samples_after : Paths → Earlier → List EventPeriod → List Instant → List Sample
samples_after path_of earlier events instants = flat_map (samples_at path_of earlier events) (placed [] instants)

-- the samples of a run, in order: first by its instructions, then by the events
abbrev pub samples : Paths → List EventPeriod → List Instant → List Sample
samples path_of events instants = samples_after path_of none_earlier events instants

-- ---- what each sample is

-- a sample of one of these instructions, for one of the events
pub record IsSampleOf (path_of : Paths) (events : List EventPeriod) (instants : List Instant)
    (s : Sample) : Type 0 where
  pub instant : Instant
  pub own : Contains instants instant
  pub is : s ≡ sample_of path_of instant s.event
  pub event : s.event < length events
