-- How many events a run may have.
use Rattle.std.proofs.Common.{◌+◌, ◌≤◌, List, [], ◌∷◌, length, arith}
use Rattle.scope_types.specs.declared.event.Event.{Event}
use Rattle.scope_types.specs.declared.event.Event.TheVariants.{Retired, Loads, Stores, Taken}
use Rattle.scope_types.specs.declared.event.EventPeriod.{EventPeriod}
use Rattle.scope_types.specs.Events.{AreAscending, AreEvents, event_number}

few_numbers : (event : Event) → event_number event + 1 ≤ 4
few_numbers Retired = omega arith
few_numbers Loads = omega arith
few_numbers Stores = omega arith
few_numbers Taken = omega arith

few_ascending : (e : EventPeriod) (events : List EventPeriod) → AreAscending (e ∷ events) → event_number e.event + length (e ∷ events) ≤ 4
few_ascending e [] up = few_numbers e.event
few_ascending e (f ∷ rest) up = let more = few_ascending f rest up.1 in let less = up.0 in omega (arith, more, less)

pub few_events : (events : List EventPeriod) → AreEvents events → length events ≤ 4
few_events [] are = omega arith
few_events (e ∷ rest) are = let few = few_ascending e rest are.ascending in omega (arith, few)
