-- What is known of a program that has no debug information.
use Rattle.std.specs.Prelude.{List, [], ◌∷◌, ℕ, codes}
use Rattle.dwarf_info.specs.Sections.{Sections}
use Rattle.dwarf_info.specs.Units.{DebugInfo}
use Rattle.dwarf_line.specs.Lines.{Lines}
use Rattle.dwarf_inline.specs.Structure.{ProgramStructure}

-- the names of the sections that debug information is read from (DWARF 5, section 7.5)
abbrev pub debug_information_names : List (List ℕ)
debug_information_names =
    codes ".debug_info" ∷ codes ".debug_abbrev" ∷ codes ".debug_line" ∷ codes ".debug_str" ∷ codes ".debug_line_str"
    ∷ codes ".debug_str_offsets" ∷ codes ".debug_addr" ∷ codes ".debug_rnglists" ∷ []

-- debug information without units and entries
abbrev pub without_units : Sections → DebugInfo
without_units sections = record { sections = sections; units = []; entries = [] }

-- no line tables
abbrev pub no_lines : Lines
no_lines = record { tables = []; sequences = [] }

-- a structure without items
abbrev pub no_structure : ProgramStructure
no_structure = record { items = []; names = []; ranges = [] }
