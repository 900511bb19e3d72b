-- The ranges of subprograms, which tell whether one holds an address.
use Rattle.std.specs.Prelude.{ℕ, List, [], find, is_some, map, if◌then◌else◌}
use Rattle.std.specs.List.{flat_map}
use Rattle.address_ranges.specs.declared.ranges.AddressRange.{AddressRange}
use Rattle.address_ranges.specs.Ranges.{holds}
use Rattle.elf_image.specs.Image.{FunctionSymbol}
use Rattle.dwarf_inline.specs.declared.subroutine.Subroutine.{Subroutine}
use Rattle.dwarf_inline.specs.Structure.{ProgramStructure}
use Rattle.scope_find.specs.Found.{item_ranges}
use Rattle.struct_listing.specs.declared.symbols.CodeRange.{CodeRange}
use Rattle.struct_listing.specs.Listing.{symbol_line}

-- a range as the code holds it
abbrev pub code_range : ℕ × ℕ → CodeRange
code_range r = record { start = r.0; end = r.1 }

-- the addresses of a range that the code holds
abbrev pub code_range_of : CodeRange → AddressRange
code_range_of r = record { start = r.start; end = r.end }

-- what an item gives of the ranges of subprograms
abbrev pub item_part : ProgramStructure → Subroutine → List CodeRange
item_part s item = if item.inlined then [] else map code_range (item_ranges s item)

-- the ranges of all subprograms
abbrev pub subprogram_ranges : ProgramStructure → List CodeRange
subprogram_ranges s = flat_map (item_part s) s.items

-- what is listed of a function symbol where these are the ranges of subprograms
abbrev pub unheld_part : List CodeRange → FunctionSymbol → List ℕ
unheld_part ranges function =
    if is_some (find (λ r. holds function.start (code_range_of r)) ranges) then [] else symbol_line function
