use Rattle.tree_join.proofs.Groups.{chains_next}
use Rattle.tree_join.proofs.children.Children.of.Goals as goal

pub loop-index-preserved : goal.loop-index-preserved
loop-index-preserved c = chains_next _ _ _ _ _ _ c.loop-index.invariant c.requires.before c.requires.few c.loop-index-test.true c.index.ensures
