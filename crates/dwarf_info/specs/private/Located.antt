-- An entry that was located.
use Rattle.std.specs.Prelude.{◌≡◌, ◌≤◌, ℕ, Some, IfSome, length, take, option_map, slice_get}
use Rattle.dwarf_forms.specs.declared.value.FormFault.TheVariants.{Short}
use Rattle.dwarf_info.specs.declared.entry.UnitContext.{UnitContext}
use Rattle.dwarf_info.specs.declared.located.DeclaredAt.{DeclaredAt}
use Rattle.dwarf_info.specs.declared.located.Located.{Located}
use Rattle.dwarf_info.specs.Sections.{Sections, section_up_to}
use Rattle.dwarf_info.specs.Values.{entry_values, values_from}
use Rattle.dwarf_info.specs.Units.{DebugInfo, declared_in}
use Rattle.dwarf_info.specs.Queries.{UnitEntry, unit_entry}

-- an entry's unit and offset
abbrev pub own_unit : UnitEntry → UnitContext × ℕ
own_unit e = (e.context, e.entry.offset)

-- the unit and the offset that were found
abbrev pub found_unit : Located → UnitContext × ℕ
found_unit at = (at.context.now, at.offset)

-- the values of the entry at an offset are those that a declaration gives, from an offset of the unit's bytes on
pub record IsDeclaredAt (sections : Sections) (context : UnitContext) (offset : ℕ) (d : DeclaredAt) : Type 0 where
  pub within : d.first ≤ length (take context.header.end sections.info)
  pub are : entry_values (declared_in sections context) (section_up_to context.header.end sections.info offset Short)
      ≡ values_from d.by.now.specs (section_up_to context.header.end sections.info d.first Short)

-- it has the unit, the offset and the values of the entry with its index
pub record IsLocated (info : DebugInfo) (at : Located) : Type 0 where
  pub own : Some (found_unit at) ≡ option_map own_unit (unit_entry info at.index)
  pub number : option_map (λ e. e.«unit») (slice_get info.entries at.index) ≡ Some at.«unit»
  pub place : option_map (λ e. e.offset) (slice_get info.entries at.index) ≡ Some at.offset
  pub values : IfSome at.declared (IsDeclaredAt info.sections at.context.now at.offset)
