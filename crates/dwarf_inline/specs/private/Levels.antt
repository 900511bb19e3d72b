-- The inlined subroutines that are open while entries are gone through: the indices where they end.
use Rattle.std.specs.Prelude.{◌≡◌, ℕ, ◌≤◌, ◌&&◌, nat_lt, Bool, List, [], ◌∷◌, ◌++◌, filter, count_by, All}
use Rattle.std.specs.Prelude.{if◌then◌else◌, Result, Ok, Err}
use Rattle.dwarf_info.specs.Subroutines.{Indexed, SubroutineEntry, is_inlined}
use Rattle.dwarf_inline.specs.declared.fault.StructureFault.{StructureFault}
use Rattle.dwarf_inline.specs.declared.fault.StructureFault.TheVariants.{TooDeep, LinkCycle}
use Rattle.dwarf_inline.specs.Links.{has_more_links}
use Rattle.dwarf_inline.specs.Structure.{most_levels}
use Rattle.dwarf_info.specs.Units.{DebugInfo}
use Rattle.dwarf_inline.specs.Nesting.{end_of}

-- how many end after an index
abbrev pub open_at : ℕ → List ℕ → ℕ
open_at i ends = count_by (λ end. nat_lt i end) ends

-- those that are open after an item that ends at `end`
abbrev pub opened : SubroutineEntry → ℕ → List ℕ → List ℕ
opened item end ends =
    if item.inlined then filter (λ other. nat_lt item.index other) ends ++ end ∷ [] else ends

-- an item, which has so many levels where it is inlined, unless too many links follow one another from it, or it is
-- inlined too deep
abbrev pub checked_entry : DebugInfo → SubroutineEntry → ℕ → Result (Unit {0}) StructureFault
checked_entry info item levels =
    if has_more_links info item.index then Err (LinkCycle item.offset)
    else (if item.inlined && nat_lt most_levels levels then Err (TooDeep item.offset) else Ok tt)

-- an inlined subroutine that ends after an index
abbrev pub is_open : DebugInfo → ℕ → Indexed → Bool
is_open info i e = is_inlined e.1 && nat_lt i (end_of info e)

-- as many are open as of the items that were gone through
abbrev pub AreOpen : DebugInfo → List Indexed → List ℕ → Type 0
AreOpen info seen ends =
    (i : ℕ) → All (λ e. e.0 ≤ i) seen → open_at i ends ≡ count_by (is_open info i) seen
