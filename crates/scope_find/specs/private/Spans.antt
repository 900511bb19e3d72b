-- The ranges of items as spans, the events where they start and end, and what is open at an address.
use Rattle.std.specs.Prelude.{◌≡◌, ◌≢◌, ◌⊎◌, ℕ, ◌<◌, ◌≤◌, ◌&&◌, Bool, false, List, [], ◌∷◌, drop}
use Rattle.std.specs.Prelude.{Option, Some, None, slice_get, slice_index_or}
use Rattle.std.specs.List.{flat_map, Contains}
use Rattle.dwarf_inline.specs.declared.subroutine.Subroutine.{Subroutine}
use Rattle.dwarf_inline.specs.Structure.{ProgramStructure}
use Rattle.scope_find.specs.declared.span.Span.{Span}
use Rattle.scope_find.specs.declared.span.Event.{Event}
use Rattle.scope_find.specs.Found.{Numbered, numbered, item_ranges, item_holds, subprogram_at, inlined_before, inlined_into}

-- ---- spans

-- a range of an item that counts
pub record IsSpan (s : ProgramStructure) (q : Span) : Type 0 where
  pub item : Subroutine
  pub there : slice_get s.items q.item ≡ Some item
  pub kind : q.inlined ≡ item.inlined
  pub counted : Contains (item_ranges s item) (q.start, q.end)

-- a range of an item as a span
abbrev pub span_of : Numbered → ℕ × ℕ → Span
span_of i r = record { inlined = i.1.inlined; item = i.0; start = r.0; end = r.1 }

-- ---- events

-- the event where a span starts
abbrev pub starting : Span → Event
starting q = record { address = q.start; span = q }

-- the event where a span ends
abbrev pub ending : Span → Event
ending q = record { address = q.end; span = q }

-- a range's two events
abbrev pub range_events : Numbered → ℕ × ℕ → List Event
range_events i r = starting (span_of i r) ∷ ending (span_of i r) ∷ []

-- the events of all ranges of an item
abbrev pub item_events : ProgramStructure → Numbered → List Event
item_events s i = flat_map (range_events i) (item_ranges s i.1)

-- the events of all items
abbrev pub all_events : ProgramStructure → List Event
all_events s = flat_map (item_events s) (numbered s)

-- the events are those of all ranges of items
pub record AreEventsOf (s : ProgramStructure) (events : List Event) : Type 0 where
  pub spans : (e : Event) → Contains events e → IsSpan s e.span
  pub places : (e : Event) → Contains events e → (e.address ≡ e.span.start) ⊎ (e.address ≡ e.span.end)
  pub some : (e : Event) → Contains events e → e.span.start < e.span.end
  pub starts : (q : Span) → IsSpan s q → Contains events (starting q)
  pub ends : (q : Span) → IsSpan s q → Contains events (ending q)

-- ---- what is open

-- after an event: its range is open where it starts there, and closed where it ends
pub record Takes (e : Event) (held before : List Span) : Type 0 where
  pub opens : e.address ≡ e.span.start → Contains held e.span
  pub closes : e.address ≢ e.span.start → Contains held e.span → ⊥
  pub keeps : (q : Span) → e.span ≢ q → Contains before q → Contains held q
  pub adds : (q : Span) → e.span ≢ q → Contains held q → Contains before q

-- after events: the ranges that have started and not ended
pub record IsOpenAfter (events : List Event) (held : List Span) : Type 0 where
  pub started : (q : Span) → Contains held q → Contains events (starting q)
  pub lasting : (q : Span) → Contains held q → Contains events (ending q) → ⊥
  pub all : (q : Span) → Contains events (starting q) → (Contains events (ending q) → ⊥) → Contains held q

-- these are spans of items
abbrev pub AreSpans : ProgramStructure → List Span → Type 0
AreSpans s held = (q : Span) → Contains held q → IsSpan s q

-- the ranges that hold an address
pub record IsOpenAt (s : ProgramStructure) (held : List Span) (address : ℕ) : Type 0 where
  pub spans : AreSpans s held
  pub from : (q : Span) → Contains held q → q.start ≤ address
  pub to : (q : Span) → Contains held q → address < q.end
  pub all : (q : Span) → IsSpan s q → q.start ≤ address → address < q.end → Contains held q

-- ---- the first item of a kind, from a number on, with an open range

-- no open span of a kind is of an item with this number or a later one
abbrev pub NoneOpen : List Span → Bool → ℕ → Type 0
NoneOpen held inlined low = (q : Span) → Contains held q → q.inlined ≡ inlined → q.item < low

-- of the items of a kind from the number `low` on, `number` is the first that has an open span
pub record IsFirstOpen (held : List Span) (inlined : Bool) (low number : ℕ) : Type 0 where
  pub span : Span
  pub there : Contains held span
  pub kinds : span.inlined ≡ inlined
  pub same : span.item ≡ number
  pub above : low ≤ number
  pub least : (q : Span) → Contains held q → q.inlined ≡ inlined → low ≤ q.item → number ≤ q.item

-- ---- the procedure at an address, and the calls inlined there

-- the item with that number is the first subprogram that holds the address
pub record IsProcedure (s : ProgramStructure) (address number : ℕ) : Type 0 where
  pub item : Subroutine
  pub there : slice_get s.items number ≡ Some item
  pub found : subprogram_at s address ≡ Some (number, item)

-- the number is that of the first subprogram at the address
abbrev pub IsProcedureAt : ProgramStructure → ℕ → Option ℕ → Type 0
IsProcedureAt s address None = subprogram_at s address ≡ None
IsProcedureAt s address (Some number) = IsProcedure s address number

-- the calls that are inlined at an address, of the items from `low` up to `end`
abbrev pub inlined_from : ProgramStructure → ℕ → ℕ → ℕ → List Subroutine
inlined_from s address low end = inlined_before s address end (drop low (numbered s))

-- the item that a number past the end gives
abbrev pub no_item : Subroutine
no_item = record {
  offset = 0;
  inlined = false;
  next_after_subtree = 0;
  identity = 0;
  call = None;
  first_range = 0;
  range_count = 0;
}

-- the item with a number
abbrev pub item_at : ProgramStructure → ℕ → Subroutine
item_at s number = slice_index_or s.items number no_item

-- the calls that are inlined at an address into the item with a number
abbrev pub into_number : ProgramStructure → ℕ → ℕ → List Subroutine
into_number s address number = inlined_into s address (number, item_at s number)

-- an item is a call that is inlined at the address
abbrev pub called : ProgramStructure → ℕ → ℕ → Bool
called s address k = (item_at s k).inlined && item_holds s address (item_at s k)

-- the same of a subprogram, where there is one
abbrev pub calls_at : ProgramStructure → ℕ → Option ℕ → List Subroutine
calls_at s address None = []
calls_at s address (Some number) = into_number s address number

-- the number is that of the first call that is inlined into an item at an address; the others are inlined into that call
abbrev pub IsInlinedNext : ProgramStructure → ℕ → ℕ → Option ℕ → Type 0
IsInlinedNext s address item None = into_number s address item ≡ []
IsInlinedNext s address item (Some next) = into_number s address item ≡ item_at s next ∷ into_number s address next
