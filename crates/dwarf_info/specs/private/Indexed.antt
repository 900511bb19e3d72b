-- What is known of the entries of the units that were read.
use Rattle.std.specs.Prelude.{◌≡◌, ◌<◌, ◌≤◌, ◌+◌, ◌++◌, ℕ, List, length, map, slice_get, slice_index_or, Some, Ok}
use Rattle.std.specs.List.{flat_map}
use Rattle.std.specs.List.Sorted.{IsNonDecreasingBy}
use Rattle.dwarf_forms.specs.Abbreviations.{table_at}
use Rattle.dwarf_info.specs.declared.entry.UnitContext.{UnitContext}
use Rattle.dwarf_info.specs.declared.entry.InfoEntry.{InfoEntry}
use Rattle.dwarf_info.specs.Sections.{Sections}
use Rattle.dwarf_info.specs.Entries.{entries_from}
use Rattle.dwarf_info.specs.Units.{declared_in, unit_body, entries_in}
use Rattle.dwarf_info.specs.private.Starts.{IsCountUpTo}

-- the offsets of entries
abbrev pub offsets_of : List InfoEntry → List ℕ
offsets_of entries = map (λ e. e.offset) entries

-- the table and the entries of a unit without a fault
pub record IsRead (sections : Sections) (context : UnitContext) : Type 0 where
  pub table : table_at sections.abbrev_bytes context.header.debug_abbrev_offset ≡ Ok (declared_in sections context)
  pub entries : List InfoEntry
  pub read : entries_from (declared_in sections context) context.index (unit_body sections context.header) ≡ Ok entries

-- the offsets of these were added to others
pub record AreMarked (sections : Sections) (old new : List ℕ) (context : UnitContext) : Type 0 where
  pub read : IsRead sections context
  pub added : new ≡ old ++ offsets_of read.entries

-- the index of the first entry of each unit: as many of them are no larger than an entry's index as its unit's, and one
pub record AreFirsts (entries : List InfoEntry) (firsts : List ℕ) : Type 0 where
  pub rise : IsNonDecreasingBy (λ n. n) firsts
  pub within : (k d : ℕ) → k < length firsts → slice_index_or firsts k d ≤ length entries
  pub units : (i : ℕ) (e : InfoEntry) → slice_get entries i ≡ Some e → IsCountUpTo i firsts (e.«unit» + 1)

-- the offsets of the entries of all units, and the index of each unit's first
pub record AreIndexed (sections : Sections) (units : List UnitContext) (offsets firsts : List ℕ) : Type 0 where
  pub are : offsets ≡ offsets_of (flat_map (entries_in sections) units)
  pub begin : AreFirsts (flat_map (entries_in sections) units) firsts
  pub each : length firsts ≡ length units
  pub read : (i : ℕ) (context : UnitContext) → slice_get units i ≡ Some context → IsRead sections context
