use Rattle.std.proofs.Common.{◌≡◌, length, []}
use Rattle.dwarf_line.specs.Lines.{line_tables_of}
use Rattle.dwarf_line.proofs.UnkeptTables.{after_reads}
use Rattle.dwarf_line.proofs.lines.read_unkept.Given as goal

abbrev pub invariant-loop-offset : goal.invariant-loop-offset
invariant-loop-offset l =
    after_reads l.segments l.tables.items (line_tables_of l.line l.texts l.segments l.rest)
    ≡ after_reads l.segments [] (line_tables_of l.line l.texts l.segments l.offsets)

abbrev pub decreases-loop-offset : goal.decreases-loop-offset
decreases-loop-offset l = length l.rest
