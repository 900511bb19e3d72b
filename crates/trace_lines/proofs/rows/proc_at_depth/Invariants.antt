use Rattle.std.proofs.Common.{◌≡◌, ◌-◌, take, length}
use Rattle.trace_lines.specs.Timeline.{proc_at_depth, procs_in}
use Rattle.trace_lines.proofs.rows.proc_at_depth.Given as goal

abbrev pub invariant-loop-scope : goal.invariant-loop-scope
invariant-loop-scope l =
    record {
      proc : l.proc ≡ proc_at_depth l.depth (take l.scope-index l.scopes);
      left : l.left ≡ l.depth - length (procs_in (take l.scope-index l.scopes));
    }
