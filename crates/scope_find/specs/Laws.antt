-- The calls that are inlined at an address, by descendants (DWARF 5, section 3.3.8).
use Rattle.std.specs.Prelude.{◌≡◌, ℕ, ◌+◌, ◌-◌, ◌&&◌, List, [], ◌∷◌, take, drop, find, Option, Some, None}
use Rattle.dwarf_inline.specs.declared.subroutine.Subroutine.{Subroutine}
use Rattle.dwarf_inline.specs.Structure.{ProgramStructure}
use Rattle.scope_find.specs.Found.{Numbered, numbered, item_holds, inlined_into}

-- an item's descendants among the items: those that follow it, up to the first that is not one
abbrev pub item_descendants : ProgramStructure → Numbered → List Numbered
item_descendants s i = take (i.1.next_after_subtree - (i.0 + 1)) (drop (i.0 + 1) (numbered s))

-- the first of some items that is an inlined subroutine and holds the address
abbrev pub first_inlined : ProgramStructure → ℕ → List Numbered → Option Numbered
first_inlined s address items = find (λ i. i.1.inlined && item_holds s address i.1) items

-- an inlined subroutine, and then those that are inlined into it at the address
abbrev pub inlined_with : ProgramStructure → ℕ → Option Numbered → List Subroutine
inlined_with s address None = []
inlined_with s address (Some i) = i.1 ∷ inlined_into s address i

-- what is inlined into an item at an address is the first inlined subroutine among its descendants that holds the
-- address, and then what is inlined into that one; nothing, where there is none
abbrev pub InlinedByDescendants : Type 0
InlinedByDescendants = (s : ProgramStructure) (address : ℕ) (i : Numbered)
    → inlined_into s address i ≡ inlined_with s address (first_inlined s address (item_descendants s i))
