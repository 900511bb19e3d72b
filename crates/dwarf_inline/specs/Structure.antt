-- The structure of a program: its subprograms and inlined subroutines with the ranges that count, who they are, where
-- they are called, and how they nest. DWARF 5, section 3.3; HPCToolkit's manual, hpcstruct.
use Rattle.std.specs.Prelude.{◌≡◌, ℕ, ◌+◌, ◌^◌, ◌<◌, ◌≤◌, ◌==◌, ◌&&◌, nat_lt, List, [], ◌∷◌, length, map, filter}
use Rattle.std.specs.Prelude.{All, find, zip, slice_get}
use Rattle.std.specs.Prelude.{is_some, sum_by, Option, Some, None, option_and_then, unwrap_or}
use Rattle.std.specs.Prelude.{Result, Ok, Err, if◌then◌else◌}
use Rattle.std.specs.List.{flat_map}
use Rattle.std.specs.Option.{option_map_or}
use Rattle.prof_bytes.specs.Outcome.{◌>>=◌}
use Rattle.elf_image.specs.Image.{ProgramImage, counts}
use Rattle.scope_types.specs.declared.scope.LineId.{LineId}
use Rattle.scope_types.specs.declared.scope.LineId.TheVariants.{Row, Address}
use Rattle.dwarf_info.specs.Units.{DebugInfo}
use Rattle.dwarf_info.specs.Queries.{unit_entry, call_site_of}
use Rattle.dwarf_info.specs.Ranges.{ranges_of}
use Rattle.dwarf_line.specs.Lines.{Lines, table_with}
use Rattle.dwarf_inline.specs.declared.subroutine.Subroutine.{Subroutine}
use Rattle.dwarf_inline.specs.declared.fault.StructureFault.{StructureFault}
use Rattle.dwarf_inline.specs.declared.fault.StructureFault.TheVariants.{TooDeep, LinkCycle}
use Rattle.dwarf_info.specs.Subroutines.{Indexed, is_inlined, item_entries}
use Rattle.dwarf_inline.specs.Links.{identity_offset, has_more_links}
use Rattle.dwarf_inline.specs.Links.{entry_name, unnamed}
use Rattle.dwarf_inline.specs.Nesting.{item_after, inlined_levels}

-- ---- ranges and calls

-- the ranges of an entry that count, each from its start up to its end
abbrev pub counted_ranges : DebugInfo → ProgramImage → ℕ → List (ℕ × ℕ)
counted_ranges info image i = filter (λ r. counts image.segments r.0 r.1) (ranges_of info i)

-- the line table of an entry's unit, where it is of version 5
abbrev pub unit_line_table : DebugInfo → Lines → ℕ → Option ℕ
unit_line_table info lines i =
    option_and_then (λ table. if is_some (table_with lines.tables table) then Some table else None)
    (option_and_then (λ e. e.context.stmt_list) (unit_entry info i))

-- a file and a line of a table, where both table and line are there; without a number of the file it is file 0
abbrev pub call_row : Option ℕ → Option ℕ × Option ℕ → Option LineId
call_row (Some table) (file, Some line) = Some (Row table (unwrap_or file 0) line)
call_row table (file, line) = None

-- where an inlined subroutine is called: the line, else the start of its first range that counts; nothing where none
-- counts
abbrev pub call_at : DebugInfo → Lines → ℕ → List (ℕ × ℕ) → Option LineId
call_at info lines i [] = None
call_at info lines i (first ∷ others) =
    Some (unwrap_or (call_row (unit_line_table info lines i) (call_site_of info i)) (Address first.0))

-- ---- items

-- how many ranges of items before an index count
abbrev pub ranges_before : DebugInfo → ProgramImage → ℕ → ℕ
ranges_before info image i =
    sum_by (λ e. length (counted_ranges info image e.0)) (filter (λ e. nat_lt e.0 i) (item_entries info))

-- an entry as an item
abbrev pub item_of : DebugInfo → Lines → ProgramImage → Indexed → Subroutine
item_of info lines image e = record {
  offset = e.1.offset;
  inlined = is_inlined e.1;
  next_after_subtree = item_after info e;
  identity = identity_offset info e.0;
  call = if is_inlined e.1 then call_at info lines e.0 (counted_ranges info image e.0) else None;
  first_range = ranges_before info image e.0;
  range_count = length (counted_ranges info image e.0);
}

-- ---- faults

-- the most inlined subroutines among an inlined subroutine and its ancestors
abbrev pub most_levels : ℕ
most_levels = 62

-- an item, unless too many links follow one another from it, or it is inlined too deep
abbrev pub checked_item : DebugInfo → Indexed → Result (Unit {0}) StructureFault
checked_item info e =
    if has_more_links info e.0 then Err (LinkCycle e.1.offset)
    else (if is_inlined e.1 && nat_lt most_levels (inlined_levels info e) then Err (TooDeep e.1.offset) else Ok tt)

-- the first fault of items, in section order
unfoldable pub checked_items : DebugInfo → List Indexed → Result (Unit {0}) StructureFault
checked_items info [] = Ok tt
checked_items info (e ∷ entries) = do
  _ ← checked_item info e
  checked_items info entries

-- ---- the structure

-- the items in section order; what each is called; and their ranges, one item's after the other's
pub record ProgramStructure : Type 0 where
  pub items : List Subroutine
  pub names : List (List ℕ)
  pub ranges : List (ℕ × ℕ)

-- the structure, or the first fault of an item
unfoldable pub structure_of : DebugInfo → Lines → ProgramImage → Result ProgramStructure StructureFault
structure_of info lines image = do
  _ ← checked_items info (item_entries info)
  Ok (record {
    items = map (item_of info lines image) (item_entries info);
    names = map (λ e. entry_name info e.0) (item_entries info);
    ranges = flat_map (λ e. counted_ranges info image e.0) (item_entries info);
  })

-- what the procedure with an identity is called: as the first item that has it
abbrev pub proc_name : ProgramStructure → ℕ → List ℕ
proc_name s offset = option_map_or (λ i. i.1) (find (λ i. i.0.identity == offset) (zip s.items s.names)) unnamed

-- what is so of every structure that is read
pub record IsWholeStructure (s : ProgramStructure) : Type 0 where
  pub few : length s.items < 2 ^ 31
  pub short : length s.ranges < 2 ^ 63
  pub named : length s.names ≡ length s.items
  pub placed : All (λ i. i.first_range + i.range_count ≤ length s.ranges) s.items
  pub some : All (λ r. r.0 < r.1) s.ranges
  pub after : (k : ℕ) (i : Subroutine) → slice_get s.items k ≡ Some i
      → (k < i.next_after_subtree) × (i.next_after_subtree ≤ length s.items)
