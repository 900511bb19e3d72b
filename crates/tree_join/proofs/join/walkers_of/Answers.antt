use Rattle.std.proofs.Common.{[], ap, ◌∙◌, sym, subst}
use Rattle.tree_join.specs.private.Walk.{IsWalker, walked_entries}
use Rattle.tree_join.proofs.Walks.{walkers_more}
use Rattle.tree_join.proofs.join.walkers_of.Goals as goal

pub loop-trie-preserved : goal.loop-trie-preserved
loop-trie-preserved c =
    let same = c.of-in-loop-trie.ensures in
    walkers_more _ _ _ c.args.tries.now c.trie-item.result _ c.loop-trie.invariant.0 c.loop-trie.invariant.1 (subst (IsWalker []) (sym same) c.in_ok-of.ensures.walks) (ap walked_entries same ∙ c.in_ok-of.ensures.entries) c.trie-item.is c.loop-trie-test.true
    c.in_ok-push.ensures.items
