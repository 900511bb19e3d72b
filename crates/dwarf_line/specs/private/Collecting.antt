-- The sequences that are collected while a program is run.
use Rattle.std.specs.Prelude.{ℕ, List, [], ◌∷◌, ◌++◌, filter, Option, option_to_list, fold, Result, Ok, if◌then◌else◌}
use Rattle.prof_bytes.specs.Outcome.{◌>>=◌}
use Rattle.elf_image.specs.declared.part.Segment.{Segment}
use Rattle.dwarf_line.specs.declared.fault.LineFault.{LineFault}
use Rattle.dwarf_line.specs.declared.registers.LineRow.{LineRow}
use Rattle.dwarf_line.specs.declared.sequence.Sequence.{Sequence}
use Rattle.dwarf_line.specs.Sequences.{sequences_from, is_counted}

-- the sequences so far that count, and the table and the rows of the one that is open
pub record Collected : Type 0 where
  pub segments : List Segment
  pub sequences : List Sequence
  pub table : ℕ
  pub rows : List LineRow

-- a sequence, if it counts
abbrev pub if_counted : List Segment → Sequence → List Sequence
if_counted segments q = filter (is_counted segments) (q ∷ [])

-- a row is added to the open sequence, or closes it
abbrev pub with_row : Collected → LineRow → Collected
with_row c row =
    if row.end_sequence then record c {
      sequences = c.sequences ++ if_counted c.segments (record { table = c.table; rows = c.rows; end = row.address });
      rows = [];
    } else record c { rows = c.rows ++ row ∷ [] }

-- an opcode's row is taken, where it appends one
abbrev pub with_effect : Collected → Option LineRow → Collected
with_effect c row = fold with_row c (option_to_list row)

-- the sequences so far, and those that count of the rows that follow
abbrev pub collected : Collected → Result (List LineRow) LineFault → Result (List Sequence) LineFault
collected c read = do
  rows ← read
  Ok (c.sequences ++ filter (is_counted c.segments) (sequences_from c.table c.rows rows))
