-- The intervals of addresses that the same items hold, and what is kept for each.
use Rattle.std.specs.Prelude.{◌≡◌, ℕ, ◌<◌, ◌≤◌, nat_le, List, [], ◌∷◌, ◌++◌, length, find, reverse, take, drop}
use Rattle.std.specs.Prelude.{Option, Some, None, slice_index_or}
use Rattle.std.specs.List.{Contains}
use Rattle.std.specs.List.Sorted.{IsNonDecreasingBy}
use Rattle.dwarf_inline.specs.Structure.{ProgramStructure, IsWholeStructure}
use Rattle.scope_find.specs.declared.intervals.AddressInterval.{AddressInterval}
use Rattle.scope_find.specs.declared.calls.NextCall.{NextCall}
use Rattle.scope_find.specs.declared.span.Span.{Span}
use Rattle.scope_find.specs.declared.span.Event.{Event}
use Rattle.scope_find.specs.Found.{subprogram_at}
use Rattle.scope_find.specs.private.Spans.{IsOpenAfter, IsOpenAt, IsProcedureAt, calls_at}
use Rattle.scope_find.specs.private.Calls.{HasCallsAt, AreLatest, AreCallsPut, AreInOrder}

-- ---- intervals

-- the last interval whose start is at most the address
abbrev pub interval_at : List AddressInterval → ℕ → Option AddressInterval
interval_at intervals address = find (λ p. nat_le p.start address) (reverse intervals)

-- an interval has the procedure of an address and the number of calls that are inlined there, and the next calls say
-- which these are
pub record IsRightInterval (s : ProgramStructure) (calls : List NextCall) (address : ℕ)
    (p : AddressInterval) : Type 0 where
  pub procedure : IsProcedureAt s address p.subprogram
  pub levels_are : p.levels ≡ length (calls_at s address p.subprogram)
  pub has : HasCallsAt s calls address p.subprogram

-- no interval holds an address without a subprogram, and else the interval that does is right
abbrev pub IsRightAt : ProgramStructure → List NextCall → ℕ → Option AddressInterval → Type 0
IsRightAt s calls address None = subprogram_at s address ≡ None
IsRightAt s calls address (Some p) = IsRightInterval s calls address p

-- each address has the procedure of its interval, and the inlined calls by the next calls
pub record AreIntervalsOf (s : ProgramStructure) (intervals : List AddressInterval)
    (calls : List NextCall) : Type 0 where
  pub rising : IsNonDecreasingBy (λ p. p.start) intervals
  pub right : (address : ℕ) → IsRightAt s calls address (interval_at intervals address)

-- what is so of the intervals and the next calls that are kept for a structure
pub record IsFoundIn (s : ProgramStructure) (intervals : List AddressInterval) (calls : List NextCall) : Type 0 where
  pub whole : IsWholeStructure s
  pub intervals_are : AreIntervalsOf s intervals calls
  pub in_order : AreInOrder calls

-- ---- how they are made

-- another event is at the address, or before it
pub record IsFollowed (events : List Event) (address : ℕ) : Type 0 where
  pub event : Event
  pub there : Contains events event
  pub at : event.address ≤ address

-- an interval was put that begins at an address, with the procedure where these ranges are open, and the next calls
pub record IsIntervalPut (s : ProgramStructure) (held : List Span) (start : ℕ) (before intervals : List AddressInterval)
    (calls_before calls : List NextCall) (latest : List ℕ) : Type 0 where
  pub interval : AddressInterval
  pub pushed : intervals ≡ before ++ interval ∷ []
  pub starts : interval.start ≡ start
  pub procedure : (address : ℕ) → IsOpenAt s held address → IsProcedureAt s address interval.subprogram
  pub put : AreCallsPut s held interval.subprogram start interval.levels calls_before calls latest

-- all events are above an address
abbrev pub AreAbove : List Event → ℕ → Type 0
AreAbove events address = (e : Event) → Contains events e → address < e.address

-- `count` events were taken
pub record IsSwept (s : ProgramStructure) (events : List Event) (count : ℕ) (held : List Span)
    (intervals : List AddressInterval) (calls : List NextCall) (latest : List ℕ) : Type 0 where
  pub after : IsOpenAfter (take count events) held
  pub rising : IsNonDecreasingBy (λ p. p.start) intervals
  pub passed : (p : AddressInterval) → Contains intervals p → (e : Event) → Contains (drop count events) e
      → p.start ≤ e.address
  pub long : length latest ≡ length s.items
  pub latest_are : AreLatest calls latest
  pub behind : (n : NextCall) → Contains calls n → (e : Event) → Contains (drop count events) e → n.start < e.address
  pub right : (address : ℕ) → AreAbove (drop count events) address
      → IsRightAt s calls address (interval_at intervals address)

-- ---- how one is found

-- the first `count` intervals start at most at an address, and the others above it
pub record IsSplit (address : ℕ) (intervals : List AddressInterval) (count : ℕ) : Type 0 where
  pub within : count ≤ length intervals
  pub below : (i : ℕ) (d : AddressInterval) → i < count → (slice_index_or intervals i d).start ≤ address
  pub above : (i : ℕ) (d : AddressInterval) → count ≤ i → i < length intervals
      → address < (slice_index_or intervals i d).start
