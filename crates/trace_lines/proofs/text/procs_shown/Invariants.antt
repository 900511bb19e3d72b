use Rattle.std.proofs.Common.{◌≡◌, take}
use Rattle.std.specs.List.{flat_map}
use Rattle.trace_lines.specs.Timeline.{cell_procs}
use Rattle.trace_lines.proofs.text.procs_shown.Given as goal

abbrev pub invariant-loop-row : goal.invariant-loop-row
invariant-loop-row l = l.procs.items ≡ flat_map (flat_map cell_procs) (take l.row-index l.rows)
