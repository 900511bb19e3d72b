use Rattle.tree_join.specs.private.Walk.{PassUpTo}
use Rattle.tree_join.proofs.walk.advance_each.Given as goal

abbrev pub invariant-loop-at : goal.invariant-loop-at
invariant-loop-at l = PassUpTo l.at l.node l.number l.fn.walkers l.walkers
