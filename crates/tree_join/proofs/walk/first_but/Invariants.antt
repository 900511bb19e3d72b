use Rattle.tree_join.specs.private.Walk.{FirstBut, lent_node}
use Rattle.tree_join.proofs.walk.first_but.Given as goal

abbrev pub invariant-loop-at : goal.invariant-loop-at
invariant-loop-at l = FirstBut l.walkers l.left_out l.at (lent_node l.first)
