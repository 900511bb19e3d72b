-- The call that is inlined next into an item, and from which address on: what is kept in place of the calls themselves.
use Rattle.std.specs.Prelude.{◌≡◌, ◌⊎◌, ℕ, ◌+◌, ◌<◌, ◌≤◌, ◌==◌, ◌&&◌, ◌||◌, nat_lt, nat_le, Bool, List, [], ◌∷◌, length}
use Rattle.std.specs.Prelude.{Option, Some, None, slice_index_or}
use Rattle.std.specs.List.{Contains}
use Rattle.std.specs.List.Sorted.{IsPermutation}
use Rattle.dwarf_inline.specs.Structure.{ProgramStructure}
use Rattle.scope_find.specs.declared.calls.NextCall.{NextCall}
use Rattle.scope_find.specs.declared.span.Span.{Span}
use Rattle.scope_find.specs.private.Spans.{IsOpenAt, item_at, into_number, calls_at}

-- ---- what is inlined next

-- from an address on this call is inlined next into an item; none, where it is 0
abbrev pub call_from : ℕ → ℕ → ℕ → NextCall
call_from item start next = record { item = item; start = start; next = next }

-- of the next calls of an item that begin at an address or before it this is the last; 0 where there is none
pub record IsNextIn (calls : List NextCall) (item address next : ℕ) : Type 0 where
  pub start : ℕ
  pub from : start ≤ address
  pub there : ((start ≡ 0) × (next ≡ 0)) ⊎ Contains calls (call_from item start next)
  pub last : (n : NextCall) → Contains calls n → n.item ≡ item → n.start ≤ address → start ≤ n.start → n.next ≡ next

-- the first call that is inlined into an item at an address is the next one, and the others are inlined into that
pub record IsCallIn (s : ProgramStructure) (calls : List NextCall) (address item next : ℕ) : Type 0 where
  pub is : IsNextIn calls item address next
  pub above : item < next
  pub within : next < length s.items
  pub calls_are : into_number s address item ≡ item_at s next ∷ into_number s address next

-- nothing is inlined into an item at an address
pub record IsNoneIn (s : ProgramStructure) (calls : List NextCall) (address item : ℕ) : Type 0 where
  pub is : IsNextIn calls item address 0
  pub none : into_number s address item ≡ []

-- these are the numbers of the calls that are inlined into an item at an address, by the next calls
abbrev pub AreCallsIn : ProgramStructure → List NextCall → ℕ → ℕ → List ℕ → Type 0
AreCallsIn s calls address item [] = IsNoneIn s calls address item
AreCallsIn s calls address item (next ∷ numbers) =
    IsCallIn s calls address item next × AreCallsIn s calls address next numbers

-- the next calls say what is inlined into an item at an address
pub record HasCalls (s : ProgramStructure) (calls : List NextCall) (address item : ℕ) : Type 0 where
  pub numbers : List ℕ
  pub are : AreCallsIn s calls address item numbers

-- the same of a subprogram, where there is one
abbrev pub HasCallsAt : ProgramStructure → List NextCall → ℕ → Option ℕ → Type 0
HasCallsAt s calls address None = Unit {0}
HasCallsAt s calls address (Some number) = HasCalls s calls address number

-- the number is that of the call that is inlined next, and the next calls say what is inlined into that
abbrev pub IsFoundNext : ProgramStructure → List NextCall → ℕ → ℕ → ℕ → Type 0
IsFoundNext s calls address item next = IsCallIn s calls address item next × HasCalls s calls address next

-- ---- how they are kept

-- for each item the last of its next calls, or 0
pub record AreLatest (calls : List NextCall) (latest : List ℕ) : Type 0 where
  pub are : (item address : ℕ) → ((n : NextCall) → Contains calls n → n.item ≡ item → n.start ≤ address)
      → IsNextIn calls item address (slice_index_or latest item 0)

-- the next calls of an item begin before an address
abbrev pub AreBefore : List NextCall → ℕ → ℕ → Type 0
AreBefore calls item address = (n : NextCall) → Contains calls n → n.item ≡ item → n.start < address

-- an item's next call was put, which is its last one
pub record IsNextPut (put : NextCall) (before calls : List NextCall) (latest_before latest : List ℕ) : Type 0 where
  pub long : length latest ≡ length latest_before
  pub latest_are : AreLatest calls latest
  pub is : (address : ℕ) → put.start ≤ address → IsNextIn calls put.item address put.next
  pub keeps : (item address next : ℕ) → (put.item ≡ item → put.start ≤ address → ⊥)
      → IsNextIn before item address next → IsNextIn calls item address next
  pub added : (n : NextCall) → Contains calls n → Contains before n ⊎ ((n.item ≡ put.item) × (n.start ≡ put.start))

-- the next calls were put of a subprogram and of what is inlined into it, which are `levels` calls up to an item
pub record IsWalked (s : ProgramStructure) (held : List Span) (subprogram start : ℕ) (before : List NextCall)
    (item levels : ℕ) (calls : List NextCall) (latest : List ℕ) : Type 0 where
  pub there : item < length s.items
  pub few : levels ≤ item
  pub counted : (address : ℕ) → IsOpenAt s held address
      → length (into_number s address subprogram) ≡ levels + length (into_number s address item)
  pub long : length latest ≡ length s.items
  pub latest_are : AreLatest calls latest
  pub later : (n : NextCall) → Contains calls n → item ≤ n.item → n.start < start
  pub until : (n : NextCall) → Contains calls n → n.start ≤ start
  pub keeps : (m address next : ℕ) → address < start → IsNextIn before m address next → IsNextIn calls m address next
  pub joins : (address : ℕ) → start ≤ address → IsOpenAt s held address → (after : List NextCall)
      → ((m next : ℕ) → m < item → IsNextIn calls m address next → IsNextIn after m address next)
      → HasCalls s after address item → HasCalls s after address subprogram

-- where these ranges are open, the next calls were put of a subprogram and of what is inlined into it: `levels` calls
pub record AreCallsPut (s : ProgramStructure) (held : List Span) (subprogram : Option ℕ) (start levels : ℕ)
    (before calls : List NextCall) (latest : List ℕ) : Type 0 where
  pub levels_are : (address : ℕ) → IsOpenAt s held address → levels ≡ length (calls_at s address subprogram)
  pub long : length latest ≡ length s.items
  pub latest_are : AreLatest calls latest
  pub until : (n : NextCall) → Contains calls n → n.start ≤ start
  pub keeps : (m address next : ℕ) → address < start → IsNextIn before m address next → IsNextIn calls m address next
  pub has : (address : ℕ) → start ≤ address → IsOpenAt s held address → HasCallsAt s calls address subprogram

-- ---- how one is found

-- a next call is of an earlier item, or of this one and begins at the address or before it
abbrev pub IsUpTo : ℕ → ℕ → NextCall → Type 0
IsUpTo item address n = (n.item ≤ item) × (n.item ≡ item → n.start ≤ address)

-- the same as a test
abbrev pub is_up_to : ℕ → ℕ → NextCall → Bool
is_up_to item address n = nat_lt n.item item || (n.item == item && nat_le n.start address)

-- by item, and then by start
abbrev pub AreInOrder : List NextCall → Type 0
AreInOrder calls = (i j : ℕ) (d : NextCall) → i ≤ j → j < length calls
    → IsUpTo (slice_index_or calls j d).item (slice_index_or calls j d).start (slice_index_or calls i d)

-- the same next calls in their order
pub record AreSorted (calls sorted : List NextCall) : Type 0 where
  pub moved : IsPermutation calls sorted
  pub in_order : AreInOrder sorted

-- the first `count` next calls are up to an item and an address, and the others are not
pub record IsSplitAt (item address : ℕ) (calls : List NextCall) (count : ℕ) : Type 0 where
  pub within : count ≤ length calls
  pub below : (i : ℕ) (d : NextCall) → i < count → IsUpTo item address (slice_index_or calls i d)
  pub above : (i : ℕ) (d : NextCall) → count ≤ i → i < length calls → IsUpTo item address (slice_index_or calls i d) → ⊥
