-- The events of a run that can be sampled, and which lists of them a run may have (HPCToolkit's manual, "Choosing
-- Sampling Sources": several event sources, each with its own period).
use Rattle.std.specs.Prelude.{ℕ, ◌<◌, ◌≤◌, ◌==◌, Bool, false, List, [], ◌∷◌, All, length, map, codes}
use Rattle.std.specs.Prelude.{if◌then◌else◌}
use Rattle.scope_types.specs.declared.event.Event.{Event}
use Rattle.scope_types.specs.declared.event.Event.TheVariants.{Retired, Loads, Stores, Taken}
use Rattle.scope_types.specs.declared.event.EventPeriod.{EventPeriod}

-- the number of an event
abbrev pub event_number : Event → ℕ
event_number Retired = 0
event_number Loads = 1
event_number Stores = 2
event_number Taken = 3

-- the event with a number
abbrev pub event_of_number : ℕ → Event
event_of_number n = if n == 0 then Retired else if n == 1 then Loads else if n == 2 then Stores else Taken

-- its name
abbrev pub event_name : Event → List ℕ
event_name Retired = codes "retired"
event_name Loads = codes "loads"
event_name Stores = codes "stores"
event_name Taken = codes "taken"

-- each event has a greater number than the one before it
abbrev pub AreAscending : List EventPeriod → Type 0
AreAscending [] = Unit {0}
AreAscending (first ∷ []) = Unit {0}
AreAscending (first ∷ second ∷ rest) =
    (event_number first.event < event_number second.event) × AreAscending (second ∷ rest)

-- events that a run may have: at least one, each once and in the order of their numbers, so that there are four at most,
-- and each with a period
pub record AreEvents (events : List EventPeriod) : Type 0 where
  pub some : 1 ≤ length events
  pub ascending : AreAscending events
  pub periods : All (λ e. 1 ≤ e.period) events

-- the periods of events, in their order
abbrev pub periods_of : List EventPeriod → List ℕ
periods_of events = map (λ e. e.period) events

-- what files say of an event that is sampled: its number and its period
abbrev pub event_words : EventPeriod → List ℕ
event_words e = event_number e.event ∷ e.period ∷ []

-- retired instructions and no other event
abbrev pub retired_every : ℕ → List EventPeriod
retired_every period = record { event = Retired; period = period } ∷ []

-- whether retired is the only event
abbrev pub is_retired_alone : List EventPeriod → Bool
is_retired_alone [] = false
is_retired_alone (e ∷ []) = event_number e.event == 0
is_retired_alone (e ∷ f ∷ rest) = false
