-- The inlined subroutines that are listed, and those that are open at an item, by the numbers at which they end.
use Rattle.std.specs.Prelude.{◌≡◌, ℕ, ◌+◌, ◌≤◌, nat_lt, List, [], ◌∷◌, count_by, filter, map, take, if◌then◌else◌}
use Rattle.dwarf_inline.specs.declared.subroutine.Subroutine.{Subroutine}
use Rattle.dwarf_inline.specs.Structure.{ProgramStructure}
use Rattle.scope_find.specs.Found.{Numbered, numbered}
use Rattle.struct_listing.specs.declared.listed.ListedInline.{ListedInline}
use Rattle.struct_listing.specs.Listing.{is_inlined_beyond, is_listed_inline}

-- ---- what is open

-- how many are open at an item
abbrev pub open_at : ProgramStructure → ℕ → ℕ
open_at s number = count_by (is_inlined_beyond number) (take (number + 1) s.items)

-- as many end above a number, from this one on, as of the items before it
abbrev pub AreOpenFrom : ProgramStructure → ℕ → List ℕ → Type 0
AreOpenFrom s number ends = (n : ℕ) → number ≤ n
    → count_by (λ end. nat_lt n end) ends ≡ count_by (is_inlined_beyond n) (take number s.items)

-- and as of the items up to it
abbrev pub AreOpenAt : ProgramStructure → ℕ → List ℕ → Type 0
AreOpenAt s number ends = (n : ℕ) → number ≤ n
    → count_by (λ end. nat_lt n end) ends ≡ count_by (is_inlined_beyond n) (take (number + 1) s.items)

-- as many end above each number from this one on
abbrev pub KeepsOpen : ℕ → List ℕ → List ℕ → Type 0
KeepsOpen number before ends = (n : ℕ) → number ≤ n
    → count_by (λ end. nat_lt n end) ends ≡ count_by (λ end. nat_lt n end) before

-- the item with a number was opened, where it is an inlined subroutine
abbrev pub IsOpened : ℕ → Subroutine → List ℕ → List ℕ → Type 0
IsOpened number item before ends = (n : ℕ) → number ≤ n
    → count_by (λ end. nat_lt n end) ends
    ≡ count_by (λ end. nat_lt n end) before + (if is_inlined_beyond n item then 1 else 0)

-- ---- what is listed

-- an inlined subroutine that is listed
abbrev pub listed_of : ProgramStructure → Numbered → ListedInline
listed_of s i = record { number = i.0; depth = open_at s i.0 }

-- an item, where it is listed as an inlined subroutine, by how many are open at it
abbrev pub listed_part : ℕ → Numbered → List ListedInline
listed_part depth i = if is_listed_inline i then record { number = i.0; depth = depth } ∷ [] else []

-- all inlined subroutines that are listed, in section order
abbrev pub listed_inlines : ProgramStructure → List ListedInline
listed_inlines s = map (listed_of s) (filter is_listed_inline (numbered s))
