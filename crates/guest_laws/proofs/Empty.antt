-- What is read of no debug information.
use Rattle.std.proofs.Common.{◌≡◌, ℕ, List, [], length, map, filter, Result, Ok, refl, ap}
use Rattle.std.specs.List.{enumerate_from, flat_map}
use Rattle.prof_bytes.specs.Outcome.{◌>>=◌}
use Rattle.elf_image.specs.declared.part.Segment.{Segment}
use Rattle.elf_image.specs.Image.{ProgramImage}
use Rattle.dwarf_forms.specs.Runs.{run_from}
use Rattle.dwarf_info.specs.declared.entry.InfoEntry.{InfoEntry}
use Rattle.dwarf_info.specs.declared.entry.UnitContext.{UnitContext}
use Rattle.dwarf_info.specs.declared.fault.InfoFault.{InfoFault}
use Rattle.dwarf_info.specs.Sections.{Sections}
use Rattle.dwarf_info.specs.Units.{DebugInfo, debug_info_of, entries_in, info_input, unit_from, units_of}
use Rattle.dwarf_line.specs.Names.{Texts}
use Rattle.dwarf_line.specs.Lines.{Lines, line_tables_of, lines_at}
use Rattle.dwarf_inline.specs.declared.fault.StructureFault.{StructureFault}
use Rattle.dwarf_info.specs.Subroutines.{Indexed, is_item, item_entries}
use Rattle.dwarf_inline.specs.Links.{entry_name}
use Rattle.dwarf_inline.specs.Structure.{ProgramStructure, checked_items, counted_ranges, item_of, structure_of}
use Rattle.guest_laws.specs.Known.{no_lines, no_structure, without_units}

pub no_entries : (sections : Sections) → sections.info ≡ [] → debug_info_of sections ≡ Ok (without_units sections)
unfolding debug_info_of run_from
no_entries sections none =
    let long : length sections.info ≡ 0 = ap length none in
    let units : units_of sections ≡ Ok [] = ap (λ (n : ℕ). run_from (unit_from sections) n 0 (info_input sections)) long in
    let made : List UnitContext → Result DebugInfo InfoFault = λ us. Ok (record { sections = sections; units = us; entries = flat_map (entries_in sections) us }) in
    let read : Result (List UnitContext) InfoFault → Result DebugInfo InfoFault = λ r. r >>= made in
    ap read units

pub no_tables : (line : List ℕ) (texts : Texts) (segments : List Segment) → lines_at line texts segments [] ≡ Ok no_lines
unfolding line_tables_of
no_tables line texts segments = refl

pub no_items : (info : DebugInfo) (lines : Lines) (image : ProgramImage) → info.entries ≡ [] → structure_of info lines image ≡ Ok no_structure
unfolding structure_of checked_items
no_items info lines image none =
    let items : item_entries info ≡ [] = ap (λ (es : List InfoEntry). filter (λ e. is_item e.1) (enumerate_from 0 es)) none in
    let made : List Indexed → Result ProgramStructure StructureFault = λ es.
    checked_items info es >>= λ checked. Ok (record {
      items = map (item_of info lines image) es;
      names = map (λ e. entry_name info e.0) es;
      ranges = flat_map (λ e. counted_ranges info image e.0) es;
    }) in
    ap made items
