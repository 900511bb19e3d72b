-- What is asked of an entry: its name, the entry that it links to, its call. DWARF 5, sections 2.13.2, 2.15, 2.22
-- and 3.3.8.
use Rattle.std.specs.Prelude.{ℕ, ◌+◌, ◌==◌, List, Option, Some, None, option_map, option_and_then, slice_get, position}
use Rattle.std.specs.Option.{option_or}
use Rattle.dwarf_forms.specs.declared.value.FormFault.TheVariants.{Short}
use Rattle.dwarf_forms.specs.Values.{FormValue, UnitRef, InfoRef}
use Rattle.dwarf_info.specs.declared.constants.TheConstants.{DW_AT_name, DW_AT_linkage_name, DW_AT_abstract_origin}
use Rattle.dwarf_info.specs.declared.constants.TheConstants.{DW_AT_specification, DW_AT_call_file, DW_AT_call_line}
use Rattle.dwarf_info.specs.declared.entry.UnitContext.{UnitContext}
use Rattle.dwarf_info.specs.declared.entry.InfoEntry.{InfoEntry}
use Rattle.dwarf_info.specs.Sections.{section_up_to}
use Rattle.dwarf_info.specs.Values.{entry_values, value_of}
use Rattle.dwarf_info.specs.Attributes.{constant_value, text_value}
use Rattle.dwarf_info.specs.Units.{DebugInfo, declared_in}

-- an entry with its unit
pub record UnitEntry : Type 0 where
  pub entry : InfoEntry
  pub context : UnitContext

-- the entry with an index
abbrev pub unit_entry : DebugInfo → ℕ → Option UnitEntry
unit_entry info i =
    option_and_then (λ e. option_map (λ b. record { entry = e; context = b }) (slice_get info.units e.«unit»))
    (slice_get info.entries i)

-- an entry of debug information by its index, as it is asked for its attributes
pub record EntryAt : Type 0 where
  pub info : DebugInfo
  pub index : ℕ

-- the one with an index
abbrev pub entry_with : DebugInfo → ℕ → EntryAt
entry_with info i = record { info = info; index = i }

-- the one with an index, if there is one
abbrev pub entry_at : DebugInfo → ℕ → Option EntryAt
entry_at info i = option_map (λ e. entry_with info i) (slice_get info.entries i)

-- the first value of one of its attributes
abbrev pub attribute_value : DebugInfo → ℕ → UnitEntry → Option FormValue
attribute_value info attribute e =
    value_of attribute
    (entry_values (declared_in info.sections e.context)
    (section_up_to e.context.header.end info.sections.info e.entry.offset Short))

-- the text of one of its attributes (section 7.5.5, class string)
abbrev pub attribute_text : DebugInfo → ℕ → UnitEntry → Option (List ℕ)
attribute_text info attribute e =
    option_and_then (text_value info.sections e.context.str_offsets_base) (attribute_value info attribute e)

-- its name, else its linkage name
abbrev pub name_of : DebugInfo → ℕ → Option (List ℕ)
name_of info i =
    option_and_then (λ e. option_or (attribute_text info DW_AT_name e) (attribute_text info DW_AT_linkage_name e))
    (unit_entry info i)

-- the offset in .debug_info that a reference gives, in a unit that starts at an offset
abbrev pub reference_value : ℕ → FormValue → Option ℕ
reference_value start (UnitRef n) = Some (start + n)
reference_value start (InfoRef n) = Some n
reference_value start other = None

-- the index of the entry at an offset
abbrev pub index_at : List InfoEntry → ℕ → Option ℕ
index_at entries offset = position (λ e. e.offset == offset) entries

-- the index of the entry that one of its attributes refers to (section 7.5.5, class reference)
abbrev pub attribute_entry : DebugInfo → ℕ → UnitEntry → Option ℕ
attribute_entry info attribute e =
    option_and_then (index_at info.entries)
    (option_and_then (reference_value e.context.header.offset) (attribute_value info attribute e))

-- the index of its abstract origin, else of the entry that it specifies
abbrev pub link_of : DebugInfo → ℕ → Option ℕ
link_of info i =
    option_and_then
    (λ e. option_or (attribute_entry info DW_AT_abstract_origin e) (attribute_entry info DW_AT_specification e))
    (unit_entry info i)

-- the number of one of its attributes (section 7.5.5, class constant)
abbrev pub attribute_number : DebugInfo → ℕ → ℕ → Option ℕ
attribute_number info attribute i =
    option_and_then (λ e. option_and_then constant_value (attribute_value info attribute e)) (unit_entry info i)

-- the file and the line of its call
abbrev pub call_site_of : DebugInfo → ℕ → Option ℕ × Option ℕ
call_site_of info i = (attribute_number info DW_AT_call_file i, attribute_number info DW_AT_call_line i)
