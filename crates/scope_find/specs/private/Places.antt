-- Known addresses in their order, each with the number of its place; a set of places, and how those that an item holds
-- are taken out of it.
use Rattle.std.specs.Prelude.{◌≡◌, ◌≢◌, ◌⊎◌, ℕ, ◌<◌, ◌≤◌, Bool, true, false, List, length, take, slice_index_or}
use Rattle.std.specs.List.{Contains, list_any}
use Rattle.dwarf_inline.specs.declared.subroutine.Subroutine.{Subroutine}
use Rattle.dwarf_inline.specs.Structure.{ProgramStructure}
use Rattle.scope_find.specs.Found.{item_ranges, range_holds, item_holds}

-- ---- places

-- the address of a place
abbrev pub address_at : List ℕ → ℕ → ℕ
address_at addresses place = slice_index_or addresses place 0

-- the places before this one have addresses below this address, and the others don't
pub record IsLowerBound (addresses : List ℕ) (address place : ℕ) : Type 0 where
  pub within : place ≤ length addresses
  pub below : (k : ℕ) → k < place → address_at addresses k < address
  pub above : (k : ℕ) → place ≤ k → k < length addresses → address ≤ address_at addresses k

-- the place of an address
pub record IsPlaceOf (addresses : List ℕ) (address place : ℕ) : Type 0 where
  pub within : place < length addresses
  pub is : address_at addresses place ≡ address

-- an address has no place
abbrev pub NoPlaceOf : List ℕ → ℕ → Type 0
NoPlaceOf addresses address = (k : ℕ) → k < length addresses → address_at addresses k ≢ address

-- these are all places below a count
pub record AreAllBelow (count : ℕ) (places : List ℕ) : Type 0 where
  pub below : (k : ℕ) → Contains places k → k < count
  pub all : (k : ℕ) → k < count → Contains places k

-- ---- the first place of a set

-- the set has no place from `low` up to `high`
abbrev pub NoneBetween : List ℕ → ℕ → ℕ → Type 0
NoneBetween places low high = (k : ℕ) → Contains places k → low ≤ k → k < high → ⊥

-- the first place of the set from `low` up to `high`
pub record IsFirstBetween (places : List ℕ) (low high place : ℕ) : Type 0 where
  pub there : Contains places place
  pub from : low ≤ place
  pub to : place < high
  pub least : (k : ℕ) → Contains places k → low ≤ k → place ≤ k

-- ---- places that are taken out

-- of the places of a set, some that pass a test were taken, each once; the others are left
pub record AreTaken (passes : ℕ → Bool) (before after taken : List ℕ) : Type 0 where
  pub keeps : (k : ℕ) → Contains after k → Contains before k
  pub either : (k : ℕ) → Contains before k → Contains after k ⊎ Contains taken k
  pub was : (k : ℕ) → Contains taken k → Contains before k
  pub passed : (k : ℕ) → Contains taken k → passes k ≡ true
  pub gone : (k : ℕ) → Contains taken k → Contains after k → ⊥
  pub once : (m n : ℕ) → m < n → n < length taken → slice_index_or taken m 0 ≢ slice_index_or taken n 0

-- no place that is left passes the test
abbrev pub NoneLeft : (ℕ → Bool) → List ℕ → Type 0
NoneLeft passes after = (k : ℕ) → Contains after k → passes k ≡ false

-- of the places from `low` up to `high` those below `at` were taken
pub record AreTakenUpTo (low high at : ℕ) (before after taken_before taken : List ℕ) : Type 0 where
  pub keeps : (k : ℕ) → Contains after k → Contains before k
  pub out : NoneBetween after low at
  pub takes : (passes : ℕ → Bool) (all : List ℕ) → ((k : ℕ) → low ≤ k → k < high → passes k ≡ true)
      → AreTaken passes all before taken_before → AreTaken passes all after taken

-- ---- the places of an item

-- an item holds the address of a place
abbrev pub holds_place : ProgramStructure → List ℕ → Subroutine → ℕ → Bool
holds_place s addresses item k = item_holds s (address_at addresses k) item

-- one of the first `count` ranges of an item holds the address of a place
abbrev pub held_so_far : ProgramStructure → List ℕ → Subroutine → ℕ → ℕ → Bool
held_so_far s addresses item count k = list_any (range_holds (address_at addresses k)) (take count (item_ranges s item))

-- the places whose addresses the first `count` ranges of an item hold were taken out of a set
pub record AreHeldTaken (s : ProgramStructure) (addresses : List ℕ) (item : Subroutine) (count : ℕ)
    (before now taken : List ℕ) : Type 0 where
  pub are : AreTaken (holds_place s addresses item) before now taken
  pub left : NoneLeft (held_so_far s addresses item count) now
