-- Where a reader is after a unit's header.
use Rattle.std.specs.Prelude.{◌≡◌, ℕ}
use Rattle.prof_bytes.specs.Fields.{Input}
use Rattle.dwarf_info.specs.declared.fault.InfoFault.{InfoFault}
use Rattle.dwarf_info.specs.declared.unit_header.UnitHeader.{UnitHeader}

-- at the first entry of the unit of this header, in the same bytes
pub record IsAtEntries (offset end : ℕ) (old new : Input InfoFault) (header : UnitHeader) : Type 0 where
  pub offset_is : header.offset ≡ offset
  pub end_is : header.end ≡ end
  pub stands : new ≡ record old { at = record { whole = old.at.whole; offset = header.first_entry } }
