use Rattle.std.proofs.Common.{rules}
use Rattle.path_trie.proofs.Places.{pushed}
use Rattle.tree_join.proofs.Groups.{then_fewer, then_index, then_gathered}
use Rattle.tree_join.proofs.children.Children.gather.Goals as goal

pub loop-at-smaller : goal.loop-at-smaller
loop-at-smaller c = then_fewer _ _ _ c.requires.chained c.requires.few c.loop-at.at c.index-at.result.now (c.loop-at.invariant.index (search rules)) c.index-at.ensures

pub loop-at-preserved : goal.loop-at-preserved
loop-at-preserved c = record {
  index = then_index _ _ _ c.requires.chained c.requires.few c.loop-at.at c.index-at.result.now (c.loop-at.invariant.index (search rules)) c.index-at.ensures;
  gathered = then_gathered _ _ _ c.requires.chained c.requires.few c.loop-at.at c.index-at.result.now (c.loop-at.invariant.index (search rules)) c.index-at.ensures _ _ _ _ (pushed _ _ _ _ _ c.push.ensures.items c.in_ok-push.was) c.loop-at.invariant.gathered;
}
