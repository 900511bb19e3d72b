-- The structure of a program as text: its subprograms, the calls that are inlined into them, and the functions that
-- only symbols know. HPCToolkit's manual, hpcstruct; DWARF 5, section 3.3.
use Rattle.std.specs.Prelude.{ℕ, ◌+◌, ◌-◌, ◌*◌, ◌&&◌, not, nat_lt, Bool, List, [], ◌∷◌, ◌++◌, codes, count_by, drop}
use Rattle.std.specs.Prelude.{filter, is_none, take, unwrap_or}
use Rattle.std.specs.List.{flat_map}
use Rattle.elf_image.specs.Image.{FunctionSymbol}
use Rattle.scope_types.specs.declared.scope.LineId.TheVariants.{Address}
use Rattle.prof_bytes.specs.Printing.{address_text, printed}
use Rattle.tree_types.specs.TopDown.{line_label, spaces}
use Rattle.dwarf_inline.specs.declared.subroutine.Subroutine.{Subroutine}
use Rattle.scope_types.specs.Limits.{most_name_bytes}
use Rattle.dwarf_inline.specs.Structure.{ProgramStructure, proc_name}
use Rattle.scope_find.specs.Found.{Numbered, ProgramScopes, item_ranges, naming_of, numbered, subprogram_at}
use Rattle.scope_find.specs.Laws.{item_descendants}

-- ---- ranges

-- the addresses from a start up to an end
abbrev pub range_text : ℕ × ℕ → List ℕ
range_text r = address_text r.0 ++ codes ".." ++ address_text r.1

-- ranges with commas between
abbrev pub ranges_text : List (ℕ × ℕ) → List ℕ
ranges_text [] = []
ranges_text (first ∷ others) = range_text first ++ flat_map (λ r. codes "," ++ range_text r) others

-- the ranges of an item that count, at the end of its line
abbrev pub ranges_tail : ProgramStructure → Subroutine → List ℕ
ranges_tail s item = codes " " ++ ranges_text (item_ranges s item) ++ codes "\n"

-- ---- subprograms and the calls that are inlined into them

-- one of its ranges counts
abbrev pub has_ranges : Subroutine → Bool
has_ranges item = nat_lt 0 item.range_count

-- a subprogram is listed where one of its ranges counts
abbrev pub is_listed_subprogram : Numbered → Bool
is_listed_subprogram i = not i.1.inlined && has_ranges i.1

-- an inlined subroutine is listed where one of its ranges counts
abbrev pub is_listed_inline : Numbered → Bool
is_listed_inline i = i.1.inlined && has_ranges i.1

-- the items after a subprogram, up to the one with a number
abbrev pub items_up_to : ProgramStructure → ℕ → ℕ → List Subroutine
items_up_to s subprogram number = take (number - subprogram) (drop (subprogram + 1) s.items)

-- an inlined subroutine that has later items than the one with a number below it
abbrev pub is_inlined_beyond : ℕ → Subroutine → Bool
is_inlined_beyond number item = item.inlined && nat_lt number item.next_after_subtree

-- how many inlined subroutines of a subprogram are the item with a number, or have it below them
abbrev pub inlined_level : ProgramStructure → ℕ → ℕ → ℕ
inlined_level s subprogram number = count_by (is_inlined_beyond number) (items_up_to s subprogram number)

-- who it is, and its ranges
abbrev pub subprogram_line : ProgramScopes → Subroutine → List ℕ
subprogram_line p item =
    codes "proc " ++ printed (proc_name p.structure item.identity) ++ ranges_tail p.structure item

-- who is called and where, two blanks in for each level, and the call's ranges
abbrev pub inline_line : ProgramScopes → ℕ → Subroutine → List ℕ
inline_line p level item = spaces (2 * level) ++ codes "inline " ++ printed (proc_name p.structure item.identity)
    ++ codes " called at " ++ line_label (naming_of p) (unwrap_or item.call (Address 0)) ++ ranges_tail p.structure item

-- the lines of what is inlined into a subprogram, in section order
abbrev pub inline_lines : ProgramScopes → Numbered → List ℕ
inline_lines p i =
    flat_map (λ j. inline_line p (inlined_level p.structure i.0 j.0) j.1)
    (filter is_listed_inline (item_descendants p.structure i))

-- a subprogram with what is inlined into it
abbrev pub subprogram_lines : ProgramScopes → Numbered → List ℕ
subprogram_lines p i = subprogram_line p i.1 ++ inline_lines p i

-- ---- functions by their symbols

-- a function symbol whose first address no subprogram holds
abbrev pub is_listed_symbol : ProgramStructure → FunctionSymbol → Bool
is_listed_symbol s function = is_none (subprogram_at s function.start)

-- the name of a function symbol, cut, and its range
abbrev pub symbol_line : FunctionSymbol → List ℕ
symbol_line function = codes "symbol " ++ printed (take most_name_bytes function.name) ++ codes " "
    ++ range_text (function.start, function.start + function.size) ++ codes "\n"

-- ---- the listing

-- the subprograms in section order, each with the calls that are inlined into it; then the function symbols
unfoldable pub structure_listing : ProgramScopes → List ℕ
structure_listing p =
    flat_map (subprogram_lines p) (filter is_listed_subprogram (numbered p.structure))
    ++ flat_map symbol_line (filter (is_listed_symbol p.structure) p.image.functions)
