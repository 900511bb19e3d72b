-- Tables whose rows are not kept: their programs are run again for each address.
use Rattle.std.specs.Prelude.{ℕ, Bool, ◌&&◌, nat_le, nat_lt, List, [], filter, find, fold, Option, Some, None}
use Rattle.std.specs.Prelude.{option_map, option_to_list, Result, Ok, Err, if◌then◌else◌}
use Rattle.std.specs.Option.{option_or}
use Rattle.prof_bytes.specs.Fields.{Input}
use Rattle.prof_bytes.specs.Outcome.{◌>>=◌}
use Rattle.address_ranges.specs.Ranges.{holds}
use Rattle.elf_image.specs.declared.part.Segment.{Segment}
use Rattle.elf_image.specs.Image.{counts, is_executable}
use Rattle.scope_types.specs.declared.scope.LineId.{LineId}
use Rattle.dwarf_line.specs.declared.fault.LineFault.{LineFault}
use Rattle.dwarf_line.specs.declared.registers.LineRow.{LineRow}
use Rattle.dwarf_line.specs.declared.rows.BestRow.{BestRow}
use Rattle.dwarf_line.specs.declared.sequence.Sequence.{Sequence}
use Rattle.dwarf_line.specs.declared.search.RowSearch.{RowSearch}
use Rattle.dwarf_line.specs.Headers.{Header, ProgramEncoding}
use Rattle.dwarf_line.specs.Programs.{matrix_from}
use Rattle.dwarf_line.specs.Sequences.{sequences_from, sequence_range, is_counted, last_row_at, row_line}
use Rattle.dwarf_line.specs.Lines.{TableNames, TableRead, table_names_of}
use Rattle.dwarf_line.specs.private.BestRow.{better}

-- a segment can be executed and holds the addresses from `low` up to `high`
abbrev pub is_code : ℕ → ℕ → Segment → Bool
is_code low high s = is_executable s && nat_le s.start low && nat_le high s.end

-- the names of a table, and its program
pub record UnkeptTable : Type 0 where
  pub names : TableNames
  pub encoding : ProgramEncoding
  pub program : Input LineFault

-- rows that were read; none where a program is at fault
abbrev pub rows_or_none : Result (List LineRow) LineFault → List LineRow
rows_or_none (Ok rows) = rows
rows_or_none (Err fault) = []

-- what is read of such a table: its files, and the sequences that count
abbrev pub unkept_read : List Segment → UnkeptTable → TableRead
unkept_read segments t = record {
  names = t.names;
  sequences = filter (is_counted segments)
      (sequences_from t.names.offset [] (rows_or_none (matrix_from t.encoding t.program)));
}

-- the table by its header
abbrev pub unkept_of : ℕ → Header → UnkeptTable
unkept_of offset header =
    record { names = table_names_of offset header; encoding = header.encoding; program = header.program }

-- ---- the rows of a program, one after the other

-- no row was seen of an open sequence
abbrev pub no_row : BestRow
no_row = record { greatest = 0; found = None }

-- no row was seen
abbrev pub no_search : RowSearch
no_search = record { first = None; best = no_row; found = None }

-- the best row of a sequence that ends, by its first address; none where it doesn't count or doesn't hold the address
abbrev pub closed : List Segment → ℕ → BestRow → ℕ → Option ℕ → Option BestRow
closed segments at best end None = None
closed segments at best end (Some first) =
    if (nat_le first at && nat_lt at end) && counts segments first end then Some best else None

-- the search after one more row
abbrev pub seen : List Segment → ℕ → RowSearch → LineRow → RowSearch
seen segments at s row =
    if row.end_sequence then record {
      first = None;
      best = no_row;
      found = option_or s.found (closed segments at s.best row.address s.first);
    } else record { first = option_or s.first (Some row.address); best = better at s.best row; found = s.found }

-- the search after an opcode's row, where it appends one
abbrev pub seen_effect : List Segment → ℕ → RowSearch → Option LineRow → RowSearch
seen_effect segments at s row = fold (seen segments at) s (option_to_list row)

-- the search after the rows that follow
abbrev pub searched : List Segment → ℕ → RowSearch → Result (List LineRow) LineFault → Result RowSearch LineFault
searched segments at s read = do
  rows ← read
  Ok (fold (seen segments at) s rows)

-- ---- what is found

-- the line of a best row
abbrev pub best_line : ℕ → BestRow → Option LineId
best_line table best = option_map (row_line table) best.found

-- the line in force in a sequence
abbrev pub line_in : ℕ → Sequence → Option LineId
line_in at q = option_map (row_line q.table) (last_row_at at q.rows)

-- the line in force in the first of some sequences that holds the address
abbrev pub first_line : ℕ → List Sequence → Option (Option LineId)
first_line at sequences = option_map (line_in at) (find (λ q. holds at (sequence_range q)) sequences)
