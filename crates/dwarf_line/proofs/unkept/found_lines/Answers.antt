use Rattle.dwarf_line.proofs.FoundLines.{found_more}
use Rattle.dwarf_line.proofs.unkept.found_lines.Goals as goal

pub loop-table-preserved : goal.loop-table-preserved
loop-table-preserved c =
    rw c.look_up.ensures
    (found_more c.args.segments.now c.loop-table.table-index c.args.tables.now c.table-item.result c.in_ok-sequences.sequences c.loop-table.found.items c.loop-table-test.true c.table-item.is c.in_ok-sequences.ensures c.loop-table.invariant)
