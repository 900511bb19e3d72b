use Rattle.std.proofs.Common.{◌≡◌, ◌-◌}
use Rattle.dwarf_line.specs.Programs.{rows_from, start}
use Rattle.dwarf_line.specs.private.Unkept.{no_search, searched}
use Rattle.dwarf_line.proofs.search.search.Given as goal

abbrev pub invariant-loop : goal.invariant-loop
invariant-loop l = record {
  whole : l.program.at.whole ≡ l.initial.program.at.whole;
  rows : searched l.segments l.address l.found (rows_from l.encoding (l.room - l.counter) l.registers l.program)
      ≡ searched l.segments l.address no_search (rows_from l.encoding l.room start l.initial.program);
}
