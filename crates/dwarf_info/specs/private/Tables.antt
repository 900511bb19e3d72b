-- The abbreviation tables that are known, by their offset, and what is known of others.
use Rattle.std.specs.Prelude.{◌≡◌, ◌<◌, ℕ, length, true, is_some, List, drop, Option, Some, None, option_map}
use Rattle.std.specs.Prelude.{option_and_then, slice_get, Ok}
use Rattle.std.specs.Ordering.{nat_cmp}
use Rattle.std.specs.BTreeMap.{get}
use Rattle.dwarf_forms.specs.declared.declaration.Abbrev.{Abbrev}
use Rattle.dwarf_forms.specs.Abbreviations.{table_at}
use Rattle.dwarf_info.specs.declared.tables.TableAt.{TableAt}
use Rattle.dwarf_info.specs.declared.tables.TableAt.TheVariants as found
use Rattle.dwarf_info.specs.declared.tables.Suffix.{Suffix}
use Rattle.dwarf_info.specs.declared.tables.Tables.{Tables}
use Rattle.dwarf_info.specs.private.CodeLists.{AreCodeLists}

-- the declarations of a suffix of one of the tables that were read
abbrev pub suffix_of : List (List Abbrev) → Suffix → Option (List Abbrev)
suffix_of read suffix = option_map (drop suffix.from) (slice_get read suffix.table)

-- the table at an offset, if it is known
abbrev pub table_in : Tables → ℕ → Option (List Abbrev)
table_in tables offset = option_and_then (suffix_of tables.read.items) (get nat_cmp tables.suffixes offset)

-- the table at an offset of the section is a suffix of one that was read
pub record IsSuffix (section : List ℕ) (read : List (List Abbrev)) (suffix : Suffix) (offset : ℕ) : Type 0 where
  pub table : List Abbrev
  pub stands : suffix_of read suffix ≡ Some table
  pub is : table_at section offset ≡ Ok table

-- each is the table at its offset of the section
pub record AreTables (section : List ℕ) (tables : Tables) : Type 0 where
  pub within : (offset : ℕ) (suffix : Suffix) → get nat_cmp tables.suffixes offset ≡ Some suffix
      → suffix.table < length tables.read.items
  pub are : (offset : ℕ) (table : List Abbrev) → table_in tables offset ≡ Some table
      → table_at section offset ≡ Ok table
  pub lists : AreCodeLists section tables.lists.items

-- the table at an offset is known, the end of one that was read, or read now
abbrev pub IsFound : List ℕ → Tables → TableAt → ℕ → Type 0
IsFound section tables found.Known offset = is_some (table_in tables offset) ≡ true
IsFound section tables (found.End suffix) offset = IsSuffix section tables.read.items suffix offset
IsFound section tables (found.Read table) offset = table_at section offset ≡ Ok table

-- each is the table at its offset, and the one at an offset is known
pub record IsTableKnown (section : List ℕ) (tables : Tables) (offset : ℕ) : Type 0 where
  pub are : AreTables section tables
  pub has : is_some (table_in tables offset) ≡ true

-- the table at an offset is known, or it is not kept and was given back
abbrev pub IsKnownOr : List ℕ → Tables → Option (List Abbrev) → ℕ → Type 0
IsKnownOr section tables None offset = is_some (table_in tables offset) ≡ true
IsKnownOr section tables (Some table) offset = table_at section offset ≡ Ok table
