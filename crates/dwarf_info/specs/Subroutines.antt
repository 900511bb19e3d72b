-- The subprograms and inlined subroutines among the entries. DWARF 5, sections 3.3 and 3.3.8.
use Rattle.std.specs.Prelude.{ℕ, ◌==◌, ◌||◌, Bool, List, filter}
use Rattle.std.specs.List.{enumerate_from}
use Rattle.dwarf_info.specs.declared.constants.TheConstants.{DW_TAG_subprogram, DW_TAG_inlined_subroutine}
use Rattle.dwarf_info.specs.declared.entry.InfoEntry.{InfoEntry}
use Rattle.dwarf_info.specs.Units.{DebugInfo}

-- DW_TAG_subprogram (section 3.3)
abbrev pub is_subprogram : InfoEntry → Bool
is_subprogram e = e.tag == DW_TAG_subprogram

-- DW_TAG_inlined_subroutine (section 3.3.8.2)
abbrev pub is_inlined : InfoEntry → Bool
is_inlined e = e.tag == DW_TAG_inlined_subroutine

-- the entries that are items of a program's structure
abbrev pub is_item : InfoEntry → Bool
is_item e = is_subprogram e || is_inlined e

-- an entry beside its index
abbrev pub Indexed : Type 0
Indexed = ℕ × InfoEntry

-- the entries of debug information, each beside its index
abbrev pub indexed : DebugInfo → List Indexed
indexed info = enumerate_from 0 info.entries

-- the subprograms and inlined subroutines, in section order
abbrev pub item_entries : DebugInfo → List Indexed
item_entries info = filter (λ e. is_item e.1) (indexed info)

-- what is kept of one of them: its index, its offset, and whether it is an inlined subroutine
pub record SubroutineEntry : Type 0 where
  pub index : ℕ
  pub offset : ℕ
  pub inlined : Bool

-- an entry as it is kept
abbrev pub subroutine_entry : Indexed → SubroutineEntry
subroutine_entry e = record { index = e.0; offset = e.1.offset; inlined = is_inlined e.1 }
