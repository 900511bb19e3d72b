use Rattle.std.proofs.Common.{sym, ◌∙◌}
use Rattle.std.proofs.lemmas.List.{get_or_default}
use Rattle.trace_lines.proofs.Shown.{depth_beyond, depth_other, depth_within}
use Rattle.trace_lines.proofs.rows.proc_at_depth.Goals as goal
use Rattle.trace_lines.proofs.rows.proc_at_depth.Goals.{in-Some+then-left-gt0, in-Some+else-left-gt0, in_default}

pub loop-scope-preserved : goal.loop-scope-preserved
loop-scope-preserved c = elim c.match-begun.branch [
  | in-Some+then-left-gt0 w ↦
      let less = c.loop-scope-test.true in
      let now = depth_within c.args.depth c.loop-scope.scope-index c.args.scopes.now w.in-Some.id c.loop-scope.left less (sym w.in-Some.ensures ∙ get_or_default _ _ _ _ less) c.loop-scope.invariant.left w.if-left-gt0.true in
      record { proc = w.proc-is ∙ now.proc_is; left = w.left-is ∙ now.left_is }
  | in-Some+else-left-gt0 w ↦
      let less = c.loop-scope-test.true in
      let now = depth_beyond c.args.depth c.loop-scope.scope-index c.args.scopes.now w.in-Some.id c.loop-scope.proc c.loop-scope.left less (sym w.in-Some.ensures ∙ get_or_default _ _ _ _ less) c.loop-scope.invariant.proc
      c.loop-scope.invariant.left w.if-left-gt0.false in
      record { proc = w.proc-is ∙ now.proc_is; left = w.left-is ∙ now.left_is }
  | in_default w ↦
      let less = c.loop-scope-test.true in
      let now = depth_other c.args.depth c.loop-scope.scope-index c.args.scopes.now _ c.loop-scope.proc c.loop-scope.left less (get_or_default _ _ _ _ less) w.in_default.ensures c.loop-scope.invariant.proc c.loop-scope.invariant.left in
      record { proc = w.proc-is ∙ now.proc_is; left = w.left-is ∙ now.left_is }
]
