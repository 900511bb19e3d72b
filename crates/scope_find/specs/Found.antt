-- The scopes at an address: its procedure, the calls that are inlined there, and its line. DWARF 5, sections 3.3.8 and
-- 6.2; HPCToolkit's manual, attribution.
use Rattle.std.specs.Prelude.{ℕ, ◌+◌, ◌&&◌, not, nat_le, Bool, List, [], ◌∷◌, map, take, drop, find, unwrap_or}
use Rattle.std.specs.Prelude.{Option, Some, None, if◌then◌else◌}
use Rattle.std.specs.List.{enumerate_from, list_any}
use Rattle.address_ranges.specs.Ranges.{holds}
use Rattle.elf_image.specs.Image.{ProgramImage}
use Rattle.scope_types.specs.declared.scope.ProcId.{ProcId}
use Rattle.scope_types.specs.declared.scope.ProcId.TheVariants.{Die, Sym, Nameless}
use Rattle.scope_types.specs.declared.scope.LineId.{LineId}
use Rattle.scope_types.specs.declared.scope.LineId.TheVariants.{Address}
use Rattle.scope_types.specs.Expansion.{FoundAt}
use Rattle.tree_types.specs.Naming.{Naming, unknown_procedure}
use Rattle.dwarf_line.specs.Lines.{Lines, file_name_of}
use Rattle.dwarf_line.specs.Sequences.{line_at}
use Rattle.dwarf_inline.specs.declared.subroutine.Subroutine.{Subroutine}
use Rattle.dwarf_inline.specs.Structure.{ProgramStructure, proc_name}
use Rattle.scope_find.specs.Symbols.{procedure_by_symbol, procedure_symbol_name}

-- what is known of a program's code
pub record ProgramScopes : Type 0 where
  pub structure : ProgramStructure
  pub lines : Lines
  pub image : ProgramImage

-- an item beside its number
abbrev pub Numbered : Type 0
Numbered = ℕ × Subroutine

-- all items in section order, numbered from 0
abbrev pub numbered : ProgramStructure → List Numbered
numbered s = enumerate_from 0 s.items

-- ---- who holds an address

-- the ranges of an item that count
abbrev pub item_ranges : ProgramStructure → Subroutine → List (ℕ × ℕ)
item_ranges s item = take item.range_count (drop item.first_range s.ranges)

-- a range holds an address
abbrev pub range_holds : ℕ → ℕ × ℕ → Bool
range_holds address r = holds address (record { start = r.0; end = r.1 })

-- one of its ranges holds the address
abbrev pub item_holds : ProgramStructure → ℕ → Subroutine → Bool
item_holds s address item = list_any (range_holds address) (item_ranges s item)

-- the first subprogram that holds the address
abbrev pub subprogram_at : ProgramStructure → ℕ → Option Numbered
subprogram_at s address = find (λ i. not i.1.inlined && item_holds s address i.1) (numbered s)

-- of the items before `end`, the first inlined subroutine that holds the address; then the first among its descendants,
-- and so on
unfoldable pub inlined_before : ProgramStructure → ℕ → ℕ → List Numbered → List Subroutine
inlined_before s address end [] = []
inlined_before s address end (i ∷ items) =
    if nat_le end i.0 then []
    else (if i.1.inlined && item_holds s address i.1 then i.1 ∷ inlined_before s address i.1.next_after_subtree items
    else inlined_before s address end items)

-- the calls that are inlined into a subprogram at the address, the outermost first
abbrev pub inlined_into : ProgramStructure → ℕ → Numbered → List Subroutine
inlined_into s address i = inlined_before s address i.1.next_after_subtree (drop (i.0 + 1) (numbered s))

-- ---- scopes

-- the procedure that is inlined, and the line of its call. An inlined subroutine that holds an address has a range that
-- counts, and so has a call
abbrev pub inline_scope : Subroutine → ProcId × LineId
inline_scope item = (Die item.identity, unwrap_or item.call (Address 0))

-- the procedure by debug information, else by symbols
abbrev pub procedure_at : ProgramScopes → ℕ → Option Numbered → ProcId
procedure_at p address (Some i) = Die i.1.identity
procedure_at p address None = procedure_by_symbol p.image address

-- the calls that are inlined at an address, the outermost first; none outside of subprograms
abbrev pub inlines_at : ProgramScopes → ℕ → Option Numbered → List (ProcId × LineId)
inlines_at p address (Some i) = map inline_scope (inlined_into p.structure address i)
inlines_at p address None = []

-- the scopes at an address
abbrev pub found_at : ProgramScopes → ℕ → FoundAt
found_at p address = record {
  procedure = procedure_at p address (subprogram_at p.structure address);
  inlines = inlines_at p address (subprogram_at p.structure address);
  line = unwrap_or (line_at p.lines.sequences address) (Address address);
}

-- ---- names

-- a procedure's name: that of its entry, of its symbol, or that of a procedure without one
abbrev pub name_of_proc : ProgramScopes → ProcId → List ℕ
name_of_proc p (Die offset) = proc_name p.structure offset
name_of_proc p (Sym start) = procedure_symbol_name p.image start
name_of_proc p Nameless = unknown_procedure

-- how procedures and files are called
abbrev pub naming_of : ProgramScopes → Naming
naming_of p = record { proc_name = name_of_proc p; file_name = file_name_of p.lines.tables }
