use Rattle.std.proofs.Common.{◌≡◌, ◌++◌, take}
use Rattle.std.specs.List.{flat_map}
use Rattle.trace_lines.specs.Timeline.{cell_procs}
use Rattle.trace_lines.proofs.text.put_procs.Given as goal

abbrev pub invariant-loop-cell : goal.invariant-loop-cell
invariant-loop-cell l = l.procs.items ≡ l.fn.procs.items ++ flat_map cell_procs (take l.cell-index l.cells)
