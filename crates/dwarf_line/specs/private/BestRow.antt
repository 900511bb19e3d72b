-- The best of the rows that were seen, one row after the other.
use Rattle.std.specs.Prelude.{ℕ, ◌&&◌, nat_le, Some, if◌then◌else◌}
use Rattle.dwarf_line.specs.declared.registers.LineRow.{LineRow}
use Rattle.dwarf_line.specs.declared.rows.BestRow.{BestRow}

-- the best row after one more: this one where its address is at most `at` and no lower than the best so far
abbrev pub better : ℕ → BestRow → LineRow → BestRow
better at best row =
    if nat_le row.address at && nat_le best.greatest row.address
    then record { greatest = row.address; found = Some row } else best
