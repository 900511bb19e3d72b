-- Sequences of the matrix, and the row in force at an address. DWARF 5, section 6.2.
use Rattle.std.specs.Prelude.{ℕ, ◌==◌, ◌&&◌, Bool, nat_le, max, List, [], ◌∷◌, ◌++◌, map, filter, find, fold, reverse}
use Rattle.std.specs.Prelude.{Option, option_map, if◌then◌else◌}
use Rattle.std.specs.Option.{option_and_then}
use Rattle.address_ranges.specs.declared.ranges.AddressRange.{AddressRange}
use Rattle.address_ranges.specs.Ranges.{holds}
use Rattle.elf_image.specs.declared.part.Segment.{Segment}
use Rattle.elf_image.specs.Image.{counts}
use Rattle.scope_types.specs.declared.scope.LineId.{LineId}
use Rattle.scope_types.specs.declared.scope.LineId.TheVariants as lines
use Rattle.dwarf_line.specs.declared.registers.LineRow.{LineRow}
use Rattle.dwarf_line.specs.declared.sequence.Sequence.{Sequence}

-- the rows before each row that ends a sequence, with that row's address. Rows after the last of these are in no
-- sequence
unfoldable pub sequences_from : ℕ → List LineRow → List LineRow → List Sequence
sequences_from table before [] = []
sequences_from table before (row ∷ rows) =
    if row.end_sequence then record { table = table; rows = before; end = row.address } ∷ sequences_from table [] rows
    else sequences_from table (before ++ row ∷ []) rows

-- the addresses from the first row up to an end; none without rows
abbrev pub rows_range : ℕ → List LineRow → AddressRange
rows_range end [] = record { start = 0; end = 0 }
rows_range end (first ∷ rows) = record { start = first.address; end = end }

-- a sequence goes from its first row's address up to its end
abbrev pub sequence_range : Sequence → AddressRange
sequence_range q = rows_range q.end q.rows

-- a sequence counts where its addresses do
abbrev pub is_counted : List Segment → Sequence → Bool
is_counted segments q = counts segments (sequence_range q).start (sequence_range q).end

-- the greatest address of a row that is at most `at`
abbrev pub greatest : ℕ → List LineRow → ℕ
greatest at rows = fold max 0 (map (λ r. r.address) (filter (λ r. nat_le r.address at) rows))

-- the last row at that address
abbrev pub last_row_at : ℕ → List LineRow → Option LineRow
last_row_at at rows = find (λ r. (r.address == greatest at rows) && nat_le r.address at) (reverse rows)

-- a row's file and line, as those of a table
abbrev pub row_line : ℕ → LineRow → LineId
row_line table row = lines.Row table row.file row.line

-- the row in force at an address: in the first sequence that holds it, the last row at the greatest address at most
-- that one
abbrev pub line_at : List Sequence → ℕ → Option LineId
line_at sequences at =
    option_and_then (λ q. option_map (row_line q.table) (last_row_at at q.rows))
    (find (λ q. holds at (sequence_range q)) sequences)
