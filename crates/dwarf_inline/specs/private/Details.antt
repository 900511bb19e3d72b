-- What the ranges of items add to them, in lists that grow.
use Rattle.std.specs.Prelude.{◌≡◌, ℕ, ◌+◌, ◌<◌, ◌≤◌, List, [], ◌∷◌, ◌++◌, length, slice_get, slice_index}
use Rattle.std.specs.Prelude.{slice_index_or, Option, Some, None, if◌then◌else◌}
use Rattle.scope_types.specs.declared.scope.LineId.{LineId}
use Rattle.scope_types.specs.declared.scope.LineId.TheVariants.{Row, Address}
use Rattle.elf_image.specs.Image.{ProgramImage}
use Rattle.dwarf_info.specs.Subroutines.{Indexed, SubroutineEntry, item_entries, subroutine_entry}
use Rattle.dwarf_info.specs.Units.{DebugInfo}
use Rattle.dwarf_line.specs.Lines.{Lines}
use Rattle.dwarf_inline.specs.declared.details.CallLine.{CallLine}
use Rattle.dwarf_inline.specs.declared.details.CallLine.TheVariants.{Nowhere, InTable, AtAddress}
use Rattle.dwarf_inline.specs.declared.details.Detail.{Detail}
use Rattle.dwarf_inline.specs.Structure.{counted_ranges, call_at, ranges_before}

-- where an item is called, in few bytes
abbrev pub call_line : Option LineId → CallLine
call_line None = Nowhere
call_line (Some (Row table file line)) = InTable table file line
call_line (Some (Address address)) = AtAddress address

-- where an item is called
abbrev pub line_id : CallLine → Option LineId
line_id Nowhere = None
line_id (InTable table file line) = Some (Row table file line)
line_id (AtAddress address) = Some (Address address)

-- what the ranges of an item add to it, where so many ranges are before them, and they are at this place
abbrev pub detail_of : DebugInfo → Lines → ProgramImage → ℕ → ℕ → SubroutineEntry → Detail
detail_of info lines image at first item = record {
  first_range = first;
  call = call_line
      (if item.inlined then call_at info lines item.index (counted_ranges info image item.index) else None);
  range_count = length (counted_ranges info image item.index);
  at = at;
}

-- a detail was appended, unless it was there, and so was its place
pub record IsPlaced (places : List ℕ) (details : List Detail) (detail : Detail)
    (places' : List ℕ) (details' : List Detail) : Type 0 where
  pub place : ℕ
  pub pushed : places' ≡ places ++ place ∷ []
  pub there : slice_get details' place ≡ Some detail
  pub keeps : (i : ℕ) → i < length details → slice_get details' i ≡ slice_get details i
  pub few : length details' ≤ length details + 1

-- the first `count` items have these places
pub record ArePlaced (info : DebugInfo) (lines : Lines) (image : ProgramImage) (count : ℕ)
    (places : List ℕ) (details : List Detail) : Type 0 where
  pub long : length places ≡ count
  pub few : length details ≤ count
  pub are : (k : ℕ) (d : Indexed) → k < count → (at : ℕ) × (slice_get details (slice_index places k)
      ≡ Some (detail_of info lines image at (ranges_before info image (slice_index_or (item_entries info) k d).0)
      (subroutine_entry (slice_index_or (item_entries info) k d))))
