-- The units of .debug_info with their entries. DWARF 5, sections 7.5.1 and 3.1.1.
use Rattle.std.specs.Prelude.{ℕ, ◌+◌, List, [], ◌∷◌, length, Option, Some, None, option_and_then, option_map, slice_get}
use Rattle.std.specs.Prelude.{Result, Ok, Err}
use Rattle.std.specs.List.{flat_map}
use Rattle.prof_bytes.specs.Fields.{Input, part_from}
use Rattle.prof_bytes.specs.Outcome.{◌>>=◌}
use Rattle.dwarf_forms.specs.declared.declaration.Abbrev.{Abbrev}
use Rattle.dwarf_forms.specs.declared.value.FormFault.TheVariants.{Short}
use Rattle.dwarf_forms.specs.Abbreviations.{table_at}
use Rattle.dwarf_forms.specs.Runs.{RunStep, run_to_end}
use Rattle.dwarf_forms.specs.Values.{FormValue}
use Rattle.dwarf_info.specs.declared.constants.TheConstants.{DW_AT_stmt_list, DW_AT_low_pc}
use Rattle.dwarf_info.specs.declared.constants.TheConstants.{DW_AT_str_offsets_base, DW_AT_addr_base}
use Rattle.dwarf_info.specs.declared.constants.TheConstants.{DW_AT_rnglists_base}
use Rattle.dwarf_info.specs.declared.unit_header.UnitHeader.{UnitHeader}
use Rattle.dwarf_info.specs.declared.entry.Unit.{Unit}
use Rattle.dwarf_info.specs.declared.entry.UnitContext.{UnitContext}
use Rattle.dwarf_info.specs.declared.entry.InfoEntry.{InfoEntry}
use Rattle.dwarf_info.specs.declared.fault.InfoFault.{InfoFault}
use Rattle.dwarf_info.specs.declared.fault.InfoFault.TheVariants.{BadUnit, BadAbbrev}
use Rattle.dwarf_info.specs.Sections.{Sections, section_up_to}
use Rattle.dwarf_info.specs.Values.{entry_values, value_of}
use Rattle.dwarf_info.specs.Attributes.{section_value, address_value}
use Rattle.dwarf_info.specs.Entries.{entries_from}
use Rattle.dwarf_info.specs.UnitHeaders.{unit_header_from}

-- ---- the entry of the unit itself, which is its first entry

-- the values of the entry of the unit, by its offset
abbrev pub unit_values : Sections → ℕ → List Abbrev → Option ℕ → List (ℕ × FormValue)
unit_values sections end declared None = []
unit_values sections end declared (Some offset) = entry_values declared (section_up_to end sections.info offset Short)

-- the offset in a section that an attribute gives
abbrev pub sec_offset_of : ℕ → List (ℕ × FormValue) → Option ℕ
sec_offset_of attribute values = option_and_then section_value (value_of attribute values)

-- a unit's header with the attributes of its entry that the values of all entries depend on
abbrev pub unit_context : Sections → ℕ → UnitHeader → List (ℕ × FormValue) → UnitContext
unit_context sections index header values = record {
  index = index;
  header = header;
  stmt_list = sec_offset_of DW_AT_stmt_list values;
  str_offsets_base = sec_offset_of DW_AT_str_offsets_base values;
  addr_base = sec_offset_of DW_AT_addr_base values;
  rnglists_base = sec_offset_of DW_AT_rnglists_base values;
  low_pc =
      option_and_then (address_value sections (sec_offset_of DW_AT_addr_base values)) (value_of DW_AT_low_pc values);
}

-- the offset of the first entry
abbrev pub first_offset : List InfoEntry → Option ℕ
first_offset entries = option_map (λ e. e.offset) (slice_get entries 0)

-- ---- a unit

-- the bytes of a unit from its first entry on
abbrev pub unit_body : Sections → UnitHeader → Input InfoFault
unit_body sections header = section_up_to header.end sections.info header.first_entry (BadUnit header.offset)

-- a result with another fault
abbrev pub failing_as : {X F G : Type 0} → G → Result X F → Result X G
failing_as other (Ok x) = Ok x
failing_as other (Err fault) = Err other

-- the declarations that the entries of a unit name
abbrev pub unit_table : Sections → UnitHeader → Result (List Abbrev) InfoFault
unit_table sections header =
    failing_as (BadAbbrev header.offset) (table_at sections.abbrev_bytes header.debug_abbrev_offset)

-- a unit that is read: its abbreviation table, its entries, and what the first of them says
unfoldable pub read_unit : Sections → ℕ → Option UnitHeader → Result (List UnitContext) InfoFault
read_unit sections index None = Ok []
read_unit sections index (Some header) = do
  declared ← unit_table sections header
  entries ← entries_from declared index (unit_body sections header)
  Ok (unit_context sections index header (unit_values sections header.end declared (first_offset entries)) ∷ [])

-- the unit that begins here, with its index among those that are read
unfoldable pub unit_from : Sections → ℕ → Input InfoFault → RunStep ℕ UnitContext InfoFault
unit_from sections index input = do
  (part, next) ← part_from (record input { missing = BadUnit input.at.offset })
  (header, body) ← unit_header_from input.at.offset next.at.offset part
  units ← read_unit sections index header
  Ok (units, index + length units, next)

-- ---- all units

-- the bytes of .debug_info from its start on
abbrev pub info_input : Sections → Input InfoFault
info_input sections = record { at = record { whole = sections.info; offset = 0 }; missing = BadUnit 0 }

-- the units that are read, in section order
abbrev pub units_of : Sections → Result (List UnitContext) InfoFault
units_of sections = run_to_end (unit_from sections) 0 (info_input sections)

-- what was read, and nothing where there is a fault
abbrev pub or_none : {X F : Type 0} → Result (List X) F → List X
or_none (Ok xs) = xs
or_none (Err fault) = []

-- the declarations of a unit that was read
abbrev pub declared_in : Sections → UnitContext → List Abbrev
declared_in sections context = or_none (table_at sections.abbrev_bytes context.header.debug_abbrev_offset)

-- its entries
abbrev pub entries_in : Sections → UnitContext → List InfoEntry
entries_in sections context =
    or_none (entries_from (declared_in sections context) context.index (unit_body sections context.header))

-- a unit as callers see it
abbrev pub unit_of : UnitContext → Unit
unit_of context = record { offset = context.header.offset; table = context.stmt_list }

-- the debug information that was read
pub record DebugInfo : Type 0 where
  pub sections : Sections
  pub units : List UnitContext
  pub entries : List InfoEntry

-- the debug information of sections: the units, and their entries one unit after the other
unfoldable pub debug_info_of : Sections → Result DebugInfo InfoFault
debug_info_of sections = do
  units ← units_of sections
  Ok (record { sections = sections; units = units; entries = flat_map (entries_in sections) units })
