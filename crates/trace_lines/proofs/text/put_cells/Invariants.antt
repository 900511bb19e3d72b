use Rattle.std.proofs.Common.{◌≡◌, ◌++◌, map, take}
use Rattle.trace_lines.specs.Timeline.{cell_byte}
use Rattle.trace_lines.proofs.text.put_cells.Given as goal

abbrev pub invariant-loop-cell : goal.invariant-loop-cell
invariant-loop-cell l = l.out.items ≡ l.fn.out.items ++ map (cell_byte l.procs) (take l.cell-index l.cells)
