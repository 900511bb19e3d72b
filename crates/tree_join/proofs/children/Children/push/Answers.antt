use Rattle.path_trie.proofs.Places.{pushed}
use Rattle.tree_join.proofs.Groups.{last_index, only_child, pushed_children}
use Rattle.tree_join.proofs.children.Children.push.Goals as goal

pub is_alone-requires-clause-index : goal.is_alone-requires-clause-index
is_alone-requires-clause-index c = last_index _ _ _ c.requires.chained c.requires.few c.args.parent c.index-last.result.now c.requires.index c.index-last.ensures

pub returns-then-is_alone : goal.returns-then-is_alone
returns-then-is_alone c = (
  _,
  only_child _ _ _ c.requires.chained c.requires.few c.args.parent c.index-last.result.now c.requires.index c.index-last.ensures (c.is_alone.ensures c.if-is_alone.true),
  pushed _ _ _ _ _ c.push.ensures.items c.in_ok-push.was,
)

pub gather-requires-clause-last : goal.gather-requires-clause-last
gather-requires-clause-last c = last_index _ _ _ c.requires.chained c.requires.few c.args.parent c.index-last.result.now c.requires.index c.index-last.ensures

pub returns : goal.returns
returns c =
    pushed_children _ _ _ c.requires.chained c.requires.few c.args.parent c.index-last.result.now c.requires.index c.index-last.ensures _ _ _ c.in_ok-gather.ensures c.sort.ensures.moved c.sort.ensures.sorted c.as_slice.ensures.value _ _ _ c.push_group.ensures
