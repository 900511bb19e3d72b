-- The header of a unit. DWARF 5, section 7.5.1.
use Rattle.std.specs.Prelude.{ℕ, ◌==◌, ◌&&◌, ◌||◌, nat_le, Bool, Option, Some, None, Result, Ok, Err, if◌then◌else◌}
use Rattle.prof_bytes.specs.Fields.{Input, number_from}
use Rattle.prof_bytes.specs.Outcome.{◌>>=◌}
use Rattle.dwarf_info.specs.declared.constants.TheConstants.{DW_UT_compile, DW_UT_type, DW_UT_partial}
use Rattle.dwarf_info.specs.declared.constants.TheConstants.{DW_UT_skeleton, DW_UT_split_compile, DW_UT_split_type}
use Rattle.dwarf_info.specs.declared.unit_header.UnitHeader.{UnitHeader}
use Rattle.dwarf_info.specs.declared.fault.InfoFault.{InfoFault}
use Rattle.dwarf_info.specs.declared.fault.InfoFault.TheVariants.{BadUnit, SplitUnit}

-- skeleton units and split units
abbrev pub is_split : ℕ → Bool
is_split unit_type =
    (unit_type == DW_UT_skeleton) || ((unit_type == DW_UT_split_compile) || (unit_type == DW_UT_split_type))

-- compile units and partial units are read, with addresses of four bytes; skeletons and split units are not
abbrev pub checked_unit_header : ℕ → ℕ → UnitHeader → Result UnitHeader InfoFault
checked_unit_header unit_type address_size header =
    if is_split unit_type then Err (SplitUnit header.offset)
    else (if (unit_type == DW_UT_compile || unit_type == DW_UT_partial) && (address_size == 4) then Ok header
    else Err (BadUnit header.offset))

-- the header from the field after unit_type on, of the unit from `offset` up to `end`
abbrev pub fields_from : ℕ → ℕ → ℕ → Input InfoFault → Result (Option UnitHeader × Input InfoFault) InfoFault
fields_from offset end unit_type input = do
  (address_size, input) ← number_from 1 input
  (debug_abbrev_offset, input) ← number_from 4 input
  header ← checked_unit_header unit_type address_size (record {
    offset = offset;
    end = end;
    debug_abbrev_offset = debug_abbrev_offset;
    first_entry = input.at.offset;
  })
  Ok (Some header, input)

-- a header of version 5 after version; none for a type unit
unfoldable pub version5_from : ℕ → ℕ → Input InfoFault → Result (Option UnitHeader × Input InfoFault) InfoFault
version5_from offset end input = do
  (unit_type, input) ← number_from 1 input
  if unit_type == DW_UT_type then Ok (None, input) else fields_from offset end unit_type input

-- a header after its version; none for versions 2 to 4
abbrev pub by_version : ℕ → ℕ → ℕ → Input InfoFault → Result (Option UnitHeader × Input InfoFault) InfoFault
by_version version offset end input =
    if version == 5 then version5_from offset end input
    else (if nat_le 2 version && nat_le version 4 then Ok (None, input) else Err input.missing)

-- the header after unit_length; none for a unit that is skipped
unfoldable pub unit_header_from : ℕ → ℕ → Input InfoFault → Result (Option UnitHeader × Input InfoFault) InfoFault
unit_header_from offset end input = do
  (version, input) ← number_from 2 input
  by_version version offset end input
