-- The scopes of known addresses, as they are kept.
use Rattle.std.specs.Prelude.{◌≡◌, ℕ, zero, suc, ◌^◌, ◌<◌, List, [], length}
use Rattle.std.specs.Prelude.{map, reverse, Option, Some, None, slice_index_or}
use Rattle.std.specs.List.Sorted.{IsNonDecreasingBy}
use Rattle.dwarf_inline.specs.declared.subroutine.Subroutine.{Subroutine}
use Rattle.dwarf_inline.specs.Structure.{ProgramStructure}
use Rattle.scope_find.specs.declared.found.InlineAt.{InlineAt}
use Rattle.scope_find.specs.declared.painted.PaintedPlace.{PaintedPlace}
use Rattle.scope_find.specs.declared.painted.CallNode.{CallNode}
use Rattle.scope_find.specs.Found.{inline_scope}
use Rattle.scope_find.specs.Views.{inline_view}
use Rattle.scope_find.specs.private.Painted.{AreCallsOut, AreCallsOf, AreBelow, calls_before, blank_place}
use Rattle.scope_find.specs.private.Places.{address_at}
use Rattle.scope_find.specs.private.Spans.{IsProcedureAt, calls_at}

-- a structure and known addresses
pub record KnownPlaces : Type 0 where
  pub structure : ProgramStructure
  pub addresses : List ℕ

-- ---- what is kept

-- a number that is kept with 1 added to it; none, where that is 0
abbrev pub number_of : ℕ → Option ℕ
number_of zero = None
number_of (suc number) = Some number

-- a node has so many calls, which are items
pub record HasCallsOut (s : ProgramStructure) (calls : List CallNode) (call levels : ℕ) : Type 0 where
  pub numbers : List ℕ
  pub count : levels ≡ length numbers
  pub below : AreBelow (length s.items) numbers
  pub are : AreCallsOut calls call numbers

-- a place has the subprogram at its address, and the calls that are inlined there
pub record AreScopesAt (s : ProgramStructure) (address : ℕ) (calls : List CallNode) (place : PaintedPlace)
    : Type 0 where
  pub procedure : IsProcedureAt s address (number_of place.subprogram)
  pub numbers : List ℕ
  pub count : place.levels ≡ length numbers
  pub below : AreBelow (length s.items) numbers
  pub are : AreCallsOf calls place.call numbers
  pub told : calls_at s address (number_of place.subprogram) ≡ calls_before s numbers []

-- the places have the scopes of all addresses
pub record AreKnown (s : ProgramStructure) (addresses : List ℕ) (places : List PaintedPlace) (calls : List CallNode)
    : Type 0 where
  pub few : length addresses < 2 ^ 32
  pub rising : IsNonDecreasingBy (λ a. a) addresses
  pub long : length places ≡ length addresses
  pub at : (k : ℕ) → k < length addresses
      → AreScopesAt s (address_at addresses k) calls (slice_index_or places k blank_place)

-- ---- what is asked

-- the number of calls that are inlined at an address
pub record HasLevelsAt (s : ProgramStructure) (address levels : ℕ) : Type 0 where
  pub number : Option ℕ
  pub procedure : IsProcedureAt s address number
  pub count : levels ≡ length (calls_at s address number)

-- the calls that are inlined at an address
pub record HasInlinesAt (s : ProgramStructure) (address : ℕ) (inlines : List InlineAt) : Type 0 where
  pub number : Option ℕ
  pub procedure : IsProcedureAt s address number
  pub told : map inline_view inlines ≡ map inline_scope (calls_at s address number)

-- ---- how the calls of a node are read

-- the calls of the node `start` were read up to a node, of which `left` are to be read; those that were read are the
-- innermost ones
pub record IsReadOut (s : ProgramStructure) (calls : List CallNode) (start at left : ℕ) (inlines : List InlineAt)
    : Type 0 where
  pub numbers : List ℕ
  pub are : AreCallsOut calls at numbers
  pub below : AreBelow (length s.items) numbers
  pub count : left ≡ length numbers
  pub done : List Subroutine
  pub told : (all : List ℕ) → AreCallsOut calls start all → calls_before s all [] ≡ calls_before s numbers done
  pub view : map inline_view (reverse inlines) ≡ map inline_scope done
