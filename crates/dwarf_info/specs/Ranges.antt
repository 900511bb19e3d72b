-- The address ranges of an entry. DWARF 5, sections 2.17, 7.25 and 7.28.
use Rattle.std.specs.Prelude.{ℕ, ◌+◌, ◌==◌, ◌&&◌, Bool, nat_le, nat_lt, List, [], ◌∷◌, ◌++◌, length}
use Rattle.std.specs.Prelude.{Option, Some, None, option_map, option_and_then, unwrap_or, Result, Ok, Err}
use Rattle.std.specs.Prelude.{if◌then◌else◌}
use Rattle.prof_bytes.specs.Number.{word_sum}
use Rattle.prof_bytes.specs.Fields.{Input, number_from, uleb_from}
use Rattle.prof_bytes.specs.Reading.{left_of}
use Rattle.prof_bytes.specs.Outcome.{◌>>=◌}
use Rattle.dwarf_forms.specs.Lists.{list_from}
use Rattle.dwarf_forms.specs.Sections.{input_at}
use Rattle.dwarf_forms.specs.Words.{low_word_signed}
use Rattle.dwarf_forms.specs.Values.{FormValue, Number, Signed, Section, ListIndex}
use Rattle.dwarf_info.specs.declared.constants.TheConstants.{DW_RLE_end_of_list, DW_RLE_base_addressx}
use Rattle.dwarf_info.specs.declared.constants.TheConstants.{DW_RLE_startx_endx, DW_RLE_startx_length}
use Rattle.dwarf_info.specs.declared.constants.TheConstants.{DW_RLE_offset_pair, DW_RLE_base_address}
use Rattle.dwarf_info.specs.declared.constants.TheConstants.{DW_RLE_start_end, DW_RLE_start_length}
use Rattle.dwarf_info.specs.declared.constants.TheConstants.{DW_AT_low_pc, DW_AT_high_pc, DW_AT_ranges}
use Rattle.dwarf_info.specs.declared.ranges.RangeListEntry.{RangeListEntry}
use Rattle.dwarf_info.specs.declared.ranges.RangeListEntry.TheVariants.{BaseAddress, StartEnd, OffsetPair}
use Rattle.dwarf_info.specs.declared.ranges.Absent.{Absent}
use Rattle.dwarf_info.specs.declared.range_source.ListPlace.{ListPlace}
use Rattle.dwarf_info.specs.declared.range_source.RangeSource.{RangeSource}
use Rattle.dwarf_info.specs.declared.range_source.RangeSource.TheVariants.{Single, Listed}
use Rattle.dwarf_info.specs.Sections.{Sections, element_in}
use Rattle.dwarf_info.specs.Attributes.{address_value}
use Rattle.dwarf_info.specs.Units.{DebugInfo}
use Rattle.dwarf_info.specs.Queries.{UnitEntry, unit_entry, attribute_value}

-- the fault of a malformed list: it counts as absent
abbrev pub absent : Absent
absent = record {}

-- ---- entries of range lists

-- a value that is there, else the list counts as absent
abbrev pub or_absent : {X : Type 0} → Option X → Result X Absent
or_absent (Some x) = Ok x
or_absent None = Err absent

-- a field that is an address or a number
abbrev pub Field : Type 0
Field = Input Absent → Result (ℕ × Input Absent) Absent

-- an index is read, and gives the address with that index in .debug_addr
abbrev pub indexed_from : Sections → Option ℕ → Field
indexed_from sections addr_base input = do
  (index, input) ← uleb_from input
  address ← or_absent (element_in sections.addr addr_base index)
  Ok (address, input)

-- an address in the list itself
abbrev pub target_address_from : Field
target_address_from input = number_from 4 input

-- one field as an entry
abbrev pub one_field : Field → (ℕ → RangeListEntry) → Input Absent
    → Result (Option RangeListEntry × Input Absent) Absent
one_field field entry input = do
  (a, input) ← field input
  Ok (Some (entry a), input)

-- two fields as an entry
abbrev pub two_fields : Field → Field → (ℕ → ℕ → RangeListEntry) → Input Absent
    → Result (Option RangeListEntry × Input Absent) Absent
two_fields first second entry input = do
  (a, input) ← first input
  (b, input) ← second input
  Ok (Some (entry a b), input)

-- a start and a length
abbrev pub start_length : ℕ → ℕ → RangeListEntry
start_length start size = StartEnd start (word_sum start size)

-- the rest of an entry by its kind; none for the one that ends the list
abbrev pub kind_from : Sections → Option ℕ → ℕ → Input Absent → Result (Option RangeListEntry × Input Absent) Absent
kind_from sections addr_base kind input =
    if kind == DW_RLE_end_of_list then Ok (None, input)
    else (if kind == DW_RLE_base_addressx then one_field (indexed_from sections addr_base) BaseAddress input
    else (if kind == DW_RLE_startx_endx then
    two_fields (indexed_from sections addr_base) (indexed_from sections addr_base) StartEnd input
    else (if kind == DW_RLE_startx_length then two_fields (indexed_from sections addr_base) uleb_from start_length input
    else (if kind == DW_RLE_offset_pair then two_fields uleb_from uleb_from OffsetPair input
    else (if kind == DW_RLE_base_address then one_field target_address_from BaseAddress input
    else (if kind == DW_RLE_start_end then two_fields target_address_from target_address_from StartEnd input
    else (if kind == DW_RLE_start_length then two_fields target_address_from uleb_from start_length input
    else Err absent)))))))

-- an entry of a list, by the byte of its kind (section 7.25); none for the one that ends the list
unfoldable pub range_entry_from : Sections → Option ℕ → Input Absent
    → Result (Option RangeListEntry × Input Absent) Absent
range_entry_from sections addr_base input = do
  (kind, input) ← number_from 1 input
  kind_from sections addr_base kind input

-- the entries of a list
abbrev pub range_list_from : Sections → Option ℕ → Input Absent → Result (List RangeListEntry × Input Absent) Absent
range_list_from sections addr_base input =
    list_from (range_entry_from sections addr_base) (length (left_of input.at)) input

-- ---- the ranges of a list

-- the ranges of an entry, and the base of those that follow it
abbrev pub ranges_by : ℕ → RangeListEntry → List (ℕ × ℕ)
ranges_by base (BaseAddress address) = []
ranges_by base (StartEnd start end) = (start, end) ∷ []
ranges_by base (OffsetPair start end) = (word_sum base start, word_sum base end) ∷ []

-- the base after an entry: DW_RLE_base_address and DW_RLE_base_addressx set it
abbrev pub base_by : ℕ → RangeListEntry → ℕ
base_by base (BaseAddress address) = address
base_by base other = base

-- the ranges of a list, with the base that holds at its start
unfoldable pub ranges_from : ℕ → List RangeListEntry → List (ℕ × ℕ)
ranges_from base [] = []
ranges_from base (entry ∷ entries) = ranges_by base entry ++ ranges_from (base_by base entry) entries

-- the ranges of a list that was read, unless it counts as absent
abbrev pub list_ranges : ℕ → Result (List RangeListEntry × Input Absent) Absent → Option (List (ℕ × ℕ))
list_ranges base (Ok entries) = Some (ranges_from base entries.0)
list_ranges base (Err fault) = None

-- the ranges of the list at an offset of .debug_rnglists
abbrev pub ranges_at : Sections → Option ℕ → ℕ → ℕ → Option (List (ℕ × ℕ))
ranges_at sections addr_base base offset =
    list_ranges base (input_at sections.rnglists offset absent >>= range_list_from sections addr_base)

-- ---- the ranges of an entry

-- the offset of the list that DW_AT_ranges gives
abbrev pub rnglist_offset : Sections → Option ℕ → FormValue → Option ℕ
rnglist_offset sections rnglists_base (Section n) = Some n
rnglist_offset sections rnglists_base (ListIndex i) =
    option_and_then (λ start. option_map (λ offset. start + offset) (element_in sections.rnglists rnglists_base i))
    rnglists_base
rnglist_offset sections rnglists_base other = None

-- DW_AT_high_pc is an address, or a number that is added to DW_AT_low_pc
abbrev pub high_pc_value : Sections → Option ℕ → ℕ → FormValue → Option ℕ
high_pc_value sections addr_base low (Number n) = Some (word_sum low n)
high_pc_value sections addr_base low (Signed z) = Some (word_sum low (low_word_signed z))
high_pc_value sections addr_base low other = address_value sections addr_base other

-- the ranges of the list that DW_AT_ranges gives, unless it counts as absent
abbrev pub attribute_ranges : DebugInfo → UnitEntry → Option (List (ℕ × ℕ))
attribute_ranges info e =
    option_and_then (ranges_at info.sections e.context.addr_base (unwrap_or e.context.low_pc 0))
    (option_and_then (rnglist_offset info.sections e.context.rnglists_base) (attribute_value info DW_AT_ranges e))

-- the address that DW_AT_low_pc gives
abbrev pub low_pc_of : DebugInfo → UnitEntry → Option ℕ
low_pc_of info e =
    option_and_then (address_value info.sections e.context.addr_base) (attribute_value info DW_AT_low_pc e)

-- the range from DW_AT_low_pc to DW_AT_high_pc
abbrev pub low_high_of : DebugInfo → UnitEntry → Option (ℕ × ℕ)
low_high_of info e =
    option_and_then
    (λ low. option_map (λ high. (low, high))
    (option_and_then (high_pc_value info.sections e.context.addr_base low) (attribute_value info DW_AT_high_pc e)))
    (low_pc_of info e)

-- one range, if there is one
abbrev pub one_or_none : Option (ℕ × ℕ) → List (ℕ × ℕ)
one_or_none None = []
one_or_none (Some range) = range ∷ []

-- the list of DW_AT_ranges unless it counts as absent, else the range from DW_AT_low_pc to DW_AT_high_pc
abbrev pub entry_ranges : DebugInfo → Option UnitEntry → List (ℕ × ℕ)
entry_ranges info None = []
entry_ranges info (Some e) = unwrap_or (attribute_ranges info e) (one_or_none (low_high_of info e))

-- the ranges of the entry with an index
abbrev pub ranges_of : DebugInfo → ℕ → List (ℕ × ℕ)
ranges_of info i = entry_ranges info (unit_entry info i)

-- ---- where the ranges of an entry come from

-- the ranges of a list, unless it counts as absent
abbrev pub place_ranges : Sections → ListPlace → Option (List (ℕ × ℕ))
place_ranges sections place = ranges_at sections place.addr_base place.base place.offset

-- the ranges that come from there: one or none, or those of a list
abbrev pub source_ranges : Sections → RangeSource → List (ℕ × ℕ)
source_ranges sections (Single range) = one_or_none range
source_ranges sections (Listed place) = unwrap_or (place_ranges sections place) []

-- a range, from its start up to its end, holds an address and lies within another one
abbrev pub holds_within : ℕ × ℕ → ℕ → ℕ × ℕ → Bool
holds_within within address range =
    nat_le within.0 range.0 && nat_le range.0 address && nat_lt address range.1 && nat_le range.1 within.1
