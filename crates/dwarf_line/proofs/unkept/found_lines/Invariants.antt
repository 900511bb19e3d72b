use Rattle.std.proofs.Common.{drop}
use Rattle.std.specs.Prelude.{All}
use Rattle.dwarf_line.specs.private.Found.{IsFoundBefore}
use Rattle.dwarf_line.proofs.UnkeptTables.{sequences_in}
use Rattle.dwarf_line.proofs.unkept.found_lines.Given as goal

abbrev pub invariant-loop-table : goal.invariant-loop-table
invariant-loop-table l =
    All (IsFoundBefore (sequences_in l.segments (drop l.table-index l.tables)) (sequences_in l.segments l.tables)) l.found.items
