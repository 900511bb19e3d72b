use Rattle.std.proofs.Common.{◌≡◌, ◌-◌}
use Rattle.dwarf_line.specs.Programs.{rows_from, start}
use Rattle.dwarf_line.specs.private.Collecting.{collected}
use Rattle.dwarf_line.proofs.run.run.Given as goal

abbrev pub invariant-loop : goal.invariant-loop
invariant-loop g l = record {
  whole : l.program.at.whole ≡ l.initial.program.at.whole;
  segments : l.collector.segments ≡ l.initial.collector.segments;
  rows : collected l.collector (rows_from l.encoding (l.room - l.counter) l.registers l.program)
      ≡ collected l.initial.collector (rows_from l.encoding l.room start l.initial.program);
}
