use Rattle.tree_join.specs.private.Children.{Chains}
use Rattle.tree_join.proofs.children.Children.of.Given as goal

abbrev pub invariant-loop-index : goal.invariant-loop-index
invariant-loop-index l = Chains l.nodes l.lasts.items l.previous.items l.index
