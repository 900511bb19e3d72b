-- What is known of a program's code: its structure by debug information, its line tables and its function symbols; or
-- the first fault of its debug information.
use Rattle.std.specs.Prelude.{ℕ, List, map, filter_map, Result, Ok, codes}
use Rattle.std.specs.Ordering.{nat_cmp}
use Rattle.prof_bytes.specs.Outcome.{◌>>=◌}
use Rattle.elf_image.specs.Image.{ProgramImage, bytes_of_name}
use Rattle.tree_types.specs.Ascending.{ascending}
use Rattle.dwarf_info.specs.declared.entry.Unit.{Unit}
use Rattle.dwarf_info.specs.Sections.{Sections}
use Rattle.dwarf_info.specs.Units.{DebugInfo, debug_info_of, unit_of}
use Rattle.dwarf_line.specs.Names.{Texts}
use Rattle.dwarf_line.specs.Lines.{Lines as LineTables, lines_at}
use Rattle.dwarf_inline.specs.Structure.{structure_of}
use Rattle.scope_find.specs.Found.{ProgramScopes}
use Rattle.command_line.specs.declared.status.InputFault.{InputFault}
use Rattle.command_line.specs.declared.status.InputFault.TheVariants.{Entries, Lines, Structure}
use Rattle.command_line.specs.Faulted.{faulted}

-- the sections of debug information
abbrev pub debug_sections : ProgramImage → Sections
debug_sections image = record {
  info = bytes_of_name image.sections (codes ".debug_info");
  abbrev_bytes = bytes_of_name image.sections (codes ".debug_abbrev");
  str_bytes = bytes_of_name image.sections (codes ".debug_str");
  line_str = bytes_of_name image.sections (codes ".debug_line_str");
  str_offsets = bytes_of_name image.sections (codes ".debug_str_offsets");
  addr = bytes_of_name image.sections (codes ".debug_addr");
  rnglists = bytes_of_name image.sections (codes ".debug_rnglists");
}

-- the texts that line tables name
abbrev pub debug_texts : ProgramImage → Texts
debug_texts image =
    record { str_bytes = (debug_sections image).str_bytes; line_str = (debug_sections image).line_str }

-- the units and entries, or their first fault
abbrev pub debug_entries : ProgramImage → Result DebugInfo InputFault
debug_entries image = faulted Entries (debug_info_of (debug_sections image))

-- the offsets of the line tables that units name, ascending, each once
abbrev pub table_offsets : List Unit → List ℕ
table_offsets units = ascending nat_cmp (filter_map (λ u. u.table) units)

-- the line tables at these offsets
abbrev pub line_tables : ProgramImage → List ℕ → Result LineTables InputFault
line_tables image offsets =
    faulted (λ fault. Lines fault.offset)
    (lines_at (bytes_of_name image.sections (codes ".debug_line")) (debug_texts image) image.segments offsets)

-- the structure by debug information, with its line tables; or the first fault
unfoldable pub program_scopes : ProgramImage → Result ProgramScopes InputFault
program_scopes image = do
  info ← debug_entries image
  lines ← line_tables image (table_offsets (map unit_of info.units))
  structure ← faulted Structure (structure_of info lines image)
  Ok (record { structure = structure; lines = lines; image = image })
