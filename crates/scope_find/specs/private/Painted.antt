-- What is known of each place after the first items: its subprogram, and the calls that are inlined there. The items
-- are taken in their order; each says at which places it is the first subprogram or the next call.
use Rattle.std.specs.Prelude.{◌≡◌, ◌⊎◌, ℕ, ◌+◌, ◌-◌, ◌^◌, ◌<◌, ◌≤◌, Bool, true, false, not, ◌&&◌, List, [], ◌∷◌, length}
use Rattle.std.specs.Prelude.{Some, slice_get, slice_index_or}
use Rattle.std.specs.List.{Contains}
use Rattle.dwarf_inline.specs.declared.subroutine.Subroutine.{Subroutine}
use Rattle.dwarf_inline.specs.Structure.{ProgramStructure}
use Rattle.scope_find.specs.declared.painted.PaintedPlace.{PaintedPlace}
use Rattle.scope_find.specs.declared.painted.CallNode.{CallNode}
use Rattle.scope_find.specs.declared.painted.Painting.{Painting}
use Rattle.scope_find.specs.Found.{item_holds}
use Rattle.scope_find.specs.private.Places.{address_at, AreTaken, NoneLeft, holds_place}
use Rattle.scope_find.specs.private.Spans.{IsProcedure, item_at, inlined_from, into_number}

-- ---- calls by their nodes

-- what is kept in place of a node of calls that have none
abbrev pub unkept : ℕ
unkept = 4294967295

-- a node: the call with that number, and the call into which it is inlined
pub record IsCallNode (calls : List CallNode) (call number outer : ℕ) : Type 0 where
  pub some : 0 < call
  pub there : slice_get calls (call - 1) ≡ Some (record { item = number; outer = outer })

-- the numbers of a node's call and of those into which it is inlined, the innermost first; none where the node is 0
abbrev pub AreCallsOut : List CallNode → ℕ → List ℕ → Type 0
AreCallsOut calls call [] = call ≡ 0
AreCallsOut calls call (number ∷ numbers) =
    (outer : ℕ) × IsCallNode calls call number outer × AreCallsOut calls outer numbers

-- the same, where the calls have a node
abbrev pub AreCallsOf : List CallNode → ℕ → List ℕ → Type 0
AreCallsOf calls call numbers = (call ≡ unkept) ⊎ AreCallsOut calls call numbers

-- numbers below a bound
abbrev pub AreBelow : ℕ → List ℕ → Type 0
AreBelow bound [] = Unit {0}
AreBelow bound (number ∷ numbers) = (number < bound) × AreBelow bound numbers

-- a node is among the nodes, as the node of a call, and the others are kept
pub record IsNodePut (node : CallNode) (before after : List CallNode) (call : ℕ) : Type 0 where
  pub some : 0 < call
  pub there : slice_get after (call - 1) ≡ Some node
  pub keeps : (k : ℕ) (n : CallNode) → slice_get before k ≡ Some n → slice_get after k ≡ Some n

-- the nodes are kept
abbrev pub KeepsCalls : List CallNode → List CallNode → Type 0
KeepsCalls before after = (call : ℕ) (numbers : List ℕ) → AreCallsOf before call numbers
    → AreCallsOf after call numbers

-- a call is inlined into that of a node
abbrev pub IsCallInto : List CallNode → List CallNode → ℕ → ℕ → ℕ → Type 0
IsCallInto before after number outer call = (numbers : List ℕ) → AreCallsOf before outer numbers
    → AreCallsOf after call (number ∷ numbers)

-- calls whose numbers are given with the innermost first, and then others, the outermost first
unfoldable pub calls_before : ProgramStructure → List ℕ → List Subroutine → List Subroutine
calls_before s [] rest = rest
calls_before s (number ∷ numbers) rest = calls_before s numbers (item_at s number ∷ rest)

-- ---- a place is painted by an item

-- a place of which nothing is known
abbrev pub blank_place : PaintedPlace
blank_place = record { subprogram = 0; end = 0; levels = 0; call = 0 }

-- what is known of a place
abbrev pub place_in : Painting → ℕ → PaintedPlace
place_in p k = slice_index_or p.places.items k blank_place

-- the item is the first subprogram there
pub record IsNowOwned (number : ℕ) (item : Subroutine) (live : List ℕ) (k : ℕ) (place : PaintedPlace) : Type 0 where
  pub kind : item.inlined ≡ false
  pub is : place ≡ record { subprogram = number + 1; end = item.next_after_subtree; levels = 0; call = 0 }
  pub alive : Contains live k

-- the item is the next call there
pub record IsNowCalled (number : ℕ) (item : Subroutine) (before calls : List CallNode) (live : List ℕ) (k : ℕ)
    (old place : PaintedPlace) : Type 0 where
  pub kind : item.inlined ≡ true
  pub inside : number < old.end
  pub same : place.subprogram ≡ old.subprogram
  pub end_is : place.end ≡ item.next_after_subtree
  pub levels_are : old.levels < 2 ^ 31 → place.levels ≡ old.levels + 1
  pub call_is : IsCallInto before calls number old.call place.call
  pub alive : Contains live k

-- no more is inlined there
pub record IsNowPast (number : ℕ) (item : Subroutine) (old place : PaintedPlace) : Type 0 where
  pub kind : item.inlined ≡ true
  pub past : old.end ≤ number
  pub is : place ≡ old

-- a place was painted by an item that holds its address
abbrev pub IsPlacePainted : ℕ → Subroutine → Painting → Painting → ℕ → Type 0
IsPlacePainted number item before after k =
    IsNowOwned number item after.live.keys k (place_in after k)
    ⊎ (IsNowCalled number item before.calls.items after.calls.items after.live.keys k (place_in before k)
    (place_in after k)
    ⊎ IsNowPast number item (place_in before k) (place_in after k))

-- these places were painted by an item, and no others
pub record ArePaintedBy (number : ℕ) (item : Subroutine) (before after : Painting) (taken : List ℕ) : Type 0 where
  pub long : length after.places.items ≡ length before.places.items
  pub unowned : after.unowned.keys ≡ before.unowned.keys
  pub calls : KeepsCalls before.calls.items after.calls.items
  pub painted : (k : ℕ) → Contains taken k → IsPlacePainted number item before after k
  pub others : (k : ℕ) → (Contains taken k → ⊥) → place_in after k ≡ place_in before k
  pub stay : (k : ℕ) → Contains before.live.keys k → Contains after.live.keys k
  pub added : (k : ℕ) → Contains after.live.keys k → Contains before.live.keys k ⊎ Contains taken k

-- the places that an item may paint, whose addresses it holds, were taken out of their set
pub record AreTakenFor (s : ProgramStructure) (addresses : List ℕ) (item : Subroutine) (before after : Painting)
    (taken : List ℕ) : Type 0 where
  pub places : after.places.items ≡ before.places.items
  pub calls : after.calls.items ≡ before.calls.items
  pub inlined : item.inlined ≡ true → AreTaken (holds_place s addresses item) before.live.keys after.live.keys taken
      × NoneLeft (holds_place s addresses item) after.live.keys × (after.unowned.keys ≡ before.unowned.keys)
  pub subprogram : item.inlined ≡ false
      → AreTaken (holds_place s addresses item) before.unowned.keys after.unowned.keys taken
      × NoneLeft (holds_place s addresses item) after.unowned.keys × (after.live.keys ≡ before.live.keys)

-- ---- what is known after the first items

-- an item is a subprogram that holds an address
abbrev pub owns : ProgramStructure → ℕ → ℕ → Bool
owns s address i = not (item_at s i).inlined && item_holds s address (item_at s i)

-- no subprogram among the first items holds the address
pub record IsUnowned (s : ProgramStructure) (address count : ℕ) (p : Painting) (k : ℕ) : Type 0 where
  pub there : Contains p.unowned.keys k
  pub dead : Contains p.live.keys k → ⊥
  pub is : place_in p k ≡ blank_place
  pub none : (i : ℕ) → i < count → owns s address i ≡ false

-- the first subprogram that holds the address, and the calls among the first items that are inlined there; others may
-- follow below `end`
pub record IsOwned (s : ProgramStructure) (address count : ℕ) (p : Painting) (k : ℕ) : Type 0 where
  pub subprogram : ℕ
  pub is : (place_in p k).subprogram ≡ subprogram + 1
  pub procedure : IsProcedure s address subprogram
  pub gone : Contains p.unowned.keys k → ⊥
  pub numbers : List ℕ
  pub few : length numbers ≤ count
  pub below : AreBelow count numbers
  pub levels : (place_in p k).levels ≡ length numbers
  pub calls : AreCallsOf p.calls.items (place_in p k).call numbers
  pub told : into_number s address subprogram
      ≡ calls_before s numbers (inlined_from s address count (place_in p k).end)
  pub past : (Contains p.live.keys k → ⊥) → (place_in p k).end ≤ count

-- what is known of each place after the first `count` items
pub record ArePainted (s : ProgramStructure) (addresses : List ℕ) (count : ℕ) (p : Painting) : Type 0 where
  pub long : length p.places.items ≡ length addresses
  pub unowned : (k : ℕ) → Contains p.unowned.keys k → k < length addresses
  pub live : (k : ℕ) → Contains p.live.keys k → k < length addresses
  pub at : (k : ℕ) → k < length addresses
      → IsUnowned s (address_at addresses k) count p k ⊎ IsOwned s (address_at addresses k) count p k
