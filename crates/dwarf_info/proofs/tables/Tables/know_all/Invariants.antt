use Rattle.dwarf_info.specs.private.Tables.{AreTables}
use Rattle.dwarf_info.proofs.tables.Tables.know_all.Given as goal

abbrev pub invariant-loop-offset : goal.invariant-loop-offset
invariant-loop-offset l = AreTables l.section l.self
