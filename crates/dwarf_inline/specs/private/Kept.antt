-- A structure as it is kept: a list for each of what its items have, and the details that items share.
use Rattle.std.specs.Prelude.{◌≡◌, ℕ, ◌<◌, false, List, length, map, slice_index, slice_index_or}
use Rattle.std.specs.List.{Contains, range_with_len}
use Rattle.std.specs.List.Sorted.{IsNonDecreasingBy}
use Rattle.dwarf_info.specs.Subroutines.{SubroutineEntry}
use Rattle.dwarf_inline.specs.declared.subroutine.Subroutine.{Subroutine}
use Rattle.dwarf_inline.specs.declared.details.Detail.{Detail}
use Rattle.dwarf_inline.specs.declared.identities.ProcName.{ProcName}
use Rattle.dwarf_inline.specs.Structure.{ProgramStructure, IsWholeStructure}
use Rattle.elf_image.specs.declared.part.Segment.{Segment}
use Rattle.dwarf_info.specs.declared.range_source.RangeSource.{RangeSource}
use Rattle.dwarf_info.specs.Sections.{Sections}
use Rattle.dwarf_inline.specs.private.Details.{line_id}
use Rattle.dwarf_inline.specs.private.Found.{AreFound, Store, all_ranges, no_detail, stored}
use Rattle.dwarf_inline.specs.private.Names.{Pair, name_by, pair_of}

-- the entry that is read behind the end of a list
abbrev pub no_entry : SubroutineEntry
no_entry = record { index = 0; offset = 0; inlined = false }

-- the lists: entries, the numbers of the items after them, the offsets of their identities, the places of their
-- details, the details, the names, the ranges that are kept, and where the others come from: the sections are the
-- program's, and so are the segments
pub record Lists : Type 0 where
  pub entries : List SubroutineEntry
  pub afters : List ℕ
  pub identities : List ℕ
  pub places : List ℕ
  pub details : List Detail
  pub names : List ProcName
  pub ranges : List (ℕ × ℕ)
  pub sources : List RangeSource
  pub sections : Sections
  pub segments : List Segment

-- an item
abbrev pub made : SubroutineEntry → ℕ → ℕ → Detail → Subroutine
made entry after identity detail = record {
  offset = entry.offset;
  inlined = entry.inlined;
  next_after_subtree = after;
  identity = identity;
  call = line_id detail.call;
  first_range = detail.first_range;
  range_count = detail.range_count;
}

-- the item with a number
abbrev pub item_at : Lists → ℕ → Subroutine
item_at l k =
    made (slice_index_or l.entries k no_entry) (slice_index l.afters k) (slice_index l.identities k)
    (slice_index_or l.details (slice_index l.places k) no_detail)

-- the ranges that lists keep, and where others come from
abbrev pub store_in : Lists → Store
store_in l = stored l.sections l.segments l.ranges l.sources

-- the structure that lists are
abbrev pub structure_in : Lists → ProgramStructure
structure_in l = record {
  items = map (item_at l) (range_with_len 0 (length l.entries));
  names = map (name_by (map pair_of l.names)) l.identities;
  ranges = all_ranges (store_in l) l.details;
}

-- the lists fit together, names are in order, and each is that of an item's identity; and the ranges of each detail are
-- found
pub record AreLists (l : Lists) : Type 0 where
  pub whole : IsWholeStructure (structure_in l)
  pub afters : length l.afters ≡ length l.entries
  pub identities : length l.identities ≡ length l.entries
  pub places : length l.places ≡ length l.entries
  pub placed : (k : ℕ) → k < length l.entries → slice_index l.places k < length l.details
  pub found : AreFound (store_in l) l.details
  pub sorted : IsNonDecreasingBy (λ n. n.identity) l.names
  pub known : (p : Pair) → Contains (map pair_of l.names) p → Contains l.identities p.0
