use Rattle.live_merge.proofs.Sums.{sum_from, tree_ok}
use Rattle.live_merge.proofs.add.add_trees.Goals as goal

pub of-requires : goal.of-requires
of-requires c =
    (tree_ok c.args.a.now c.args.b.now _ _ _ _ _ _ _ _ _ _ _ c.nodes.ensures.nodes c.nodes-2.ensures.nodes c.counts.ensures.counts c.counts-2.ensures.counts c.as_slice.ensures.value c.as_slice-2.ensures.value c.columns.ensures.columns
    c.nodes.ensures.tree c.nodes-2.ensures.tree c.requires c.in_ok-walked.ensures.walking c.in_ok-walked.ensures.left c.in_ok-walked.ensures.right c.in_ok-counts.ensures).0

pub returns : goal.returns
returns c =
    sum_from _ _ _ _ c.of.ensures
    (tree_ok c.args.a.now c.args.b.now _ _ _ _ _ _ _ _ _ _ _ c.nodes.ensures.nodes c.nodes-2.ensures.nodes c.counts.ensures.counts c.counts-2.ensures.counts c.as_slice.ensures.value c.as_slice-2.ensures.value c.columns.ensures.columns
    c.nodes.ensures.tree c.nodes-2.ensures.tree c.requires c.in_ok-walked.ensures.walking c.in_ok-walked.ensures.left c.in_ok-walked.ensures.right c.in_ok-counts.ensures).1
