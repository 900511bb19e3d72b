use Rattle.std.proofs.Common.{◌≡◌, drop}
use Rattle.dwarf_line.specs.private.Unkept.{first_line}
use Rattle.dwarf_line.proofs.UnkeptTables.{sequences_in}
use Rattle.dwarf_line.proofs.unkept.first_line.Given as goal

abbrev pub invariant-loop-table : goal.invariant-loop-table
invariant-loop-table l =
    first_line l.pc (sequences_in l.segments (drop l.table-index l.tables)) ≡ first_line l.pc (sequences_in l.segments l.tables)
