use Rattle.std.proofs.Common.{ap, ◌∙◌}
use Rattle.tree_join.specs.private.Walk.{lent_node}
use Rattle.tree_join.proofs.Walks.{first_more, first_skip}
use Rattle.tree_join.proofs.walk.first_but.Goals as goal
use Rattle.tree_join.proofs.walk.first_but.Goals.{then-at-left_out, else-at-left_out}

pub loop-at-preserved : goal.loop-at-preserved
loop-at-preserved c = elim c.if-at-left_out.branch [
  | then-at-left_out w ↦ first_more c.args.walkers.now c.args.left_out c.loop-at.at _ c.loop-at-test.true w.if-at-left_out.true w.index-walkers-at.is _ _ _ c.loop-at.invariant w.head.ensures (ap lent_node w.first-is ∙ w.earlier-first.ensures)
  | else-at-left_out w ↦ first_skip c.args.walkers.now c.args.left_out c.loop-at.at _ _ c.loop-at.invariant w.if-at-left_out.false (ap lent_node w.first-is)
]
