use Rattle.std.proofs.Common.{◌≡◌, ◌++◌, take}
use Rattle.std.specs.List.{flat_map, enumerate_from}
use Rattle.trace_lines.specs.Timeline.{row_line}
use Rattle.trace_lines.proofs.text.put_rows.Given as goal

abbrev pub invariant-loop-hart : goal.invariant-loop-hart
invariant-loop-hart l = l.out.items ≡ l.fn.out.items ++ flat_map (row_line l.procs) (take l.hart (enumerate_from 0 l.rows))
