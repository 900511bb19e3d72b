-- What is kept of debug information beside its content.
use Rattle.std.specs.Prelude.{◌≡◌, ℕ, ◌^◌, ◌<◌, List, length, map, AllPairs}
use Rattle.dwarf_info.specs.declared.entry.Unit.{Unit}
use Rattle.dwarf_info.specs.declared.entry.UnitContext.{UnitContext}
use Rattle.dwarf_info.specs.Sections.{Sections}
use Rattle.dwarf_info.specs.Units.{unit_of}
use Rattle.dwarf_info.specs.declared.tables.Tables.{Tables}
use Rattle.dwarf_info.specs.private.Indexed.{AreIndexed}
use Rattle.dwarf_info.specs.private.Tables.{AreTables}

-- the sections of texts, the units as callers see them, the tables, and the offsets of all entries with the index of
-- each unit's first; the offsets ascend, and they and the bytes of the sections are few
pub record AreInfoParts (sections : Sections) (str_bytes line_str : List ℕ) (units : List Unit)
    (contexts : List UnitContext) (offsets firsts : List ℕ) (tables : Tables) : Type 0 where
  pub strings : str_bytes ≡ sections.str_bytes
  pub line_strings : line_str ≡ sections.line_str
  pub shown : units ≡ map unit_of contexts
  pub are : AreTables sections.abbrev_bytes tables
  pub indexed : AreIndexed sections contexts offsets firsts
  pub ascend : AllPairs (λ a b. a < b) offsets
  pub few : length offsets < 2 ^ 31
  pub info : length sections.info < 2 ^ 31
  pub lists : length sections.rnglists < 2 ^ 31
