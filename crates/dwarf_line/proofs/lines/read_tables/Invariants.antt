use Rattle.std.proofs.Common.{◌≡◌, length, []}
use Rattle.dwarf_line.specs.Lines.{line_tables_of}
use Rattle.dwarf_line.specs.private.Tables.{added_to}
use Rattle.dwarf_line.proofs.lines.read_tables.Given as goal

abbrev pub invariant-loop-offset : goal.invariant-loop-offset
invariant-loop-offset l = record {
  segments : l.collector.segments ≡ l.initial.collector.segments;
  tables : added_to l.tables.items l.collector.sequences (line_tables_of l.line l.texts l.initial.collector.segments l.rest)
      ≡ added_to [] l.initial.collector.sequences (line_tables_of l.line l.texts l.initial.collector.segments l.offsets);
}

abbrev pub decreases-loop-offset : goal.decreases-loop-offset
decreases-loop-offset l = length l.rest
