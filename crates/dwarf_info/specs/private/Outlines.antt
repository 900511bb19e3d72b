-- Depths and items of entries, in lists that grow.
use Rattle.std.specs.Prelude.{◌≡◌, ℕ, ◌+◌, ◌^◌, ◌<◌, List, ◌++◌, length, map, filter, Ok}
use Rattle.std.specs.List.{enumerate_from}
use Rattle.prof_bytes.specs.Fields.{Input}
use Rattle.dwarf_forms.specs.declared.declaration.Abbrev.{Abbrev}
use Rattle.dwarf_info.specs.declared.entry.InfoEntry.{InfoEntry}
use Rattle.dwarf_info.specs.declared.fault.InfoFault.{InfoFault}
use Rattle.dwarf_info.specs.declared.outline.Outline.{Outline}
use Rattle.dwarf_info.specs.Entries.{entries_from}
use Rattle.dwarf_info.specs.Subroutines.{SubroutineEntry, is_item, subroutine_entry}

-- what is kept of the items among entries of which the first has this index
abbrev pub items_from : ℕ → List InfoEntry → List SubroutineEntry
items_from index entries = map subroutine_entry (filter (λ e. is_item e.1) (enumerate_from index entries))

-- these entries were added
pub record AreOutlined (old : Outline) (entries : List InfoEntry) (new : Outline) : Type 0 where
  pub depths : new.depths.items ≡ old.depths.items ++ map (λ e. e.depth) entries
  pub items : new.subroutines.items ≡ old.subroutines.items ++ items_from (length old.depths.items) entries

-- the entries of a unit without a fault; with those before them they are few
pub record AreFew (declared : List Abbrev) (index before : ℕ) (input : Input InfoFault) : Type 0 where
  pub entries : List InfoEntry
  pub read : entries_from declared index input ≡ Ok entries
  pub few : before + length entries < 2 ^ 31
