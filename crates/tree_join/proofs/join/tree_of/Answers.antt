use Rattle.tree_join.proofs.Joining.{begin, few_samples, have_places, tree_from, tree_is, tree_made}
use Rattle.tree_join.proofs.join.tree_of.Goals as goal

pub walk-requires : goal.walk-requires
walk-requires c = begin _ c.requires.each c.requires.nodes

pub summed-requires-clause-indices : goal.summed-requires-clause-indices
summed-requires-clause-indices c = have_places _ _ _ c.in_ok-nodes.ensures.walking

pub summed-requires-clause-few : goal.summed-requires-clause-few
summed-requires-clause-few c = few_samples _ _ _ c.in_ok-nodes.ensures.walking c.requires.samples

pub of-requires : goal.of-requires
of-requires c = tree_is _ _ _ c.in_ok-nodes.ensures.walking c.in_ok-nodes.ensures.ended _ c.in_ok-counts.ensures c.args.columns c.requires.columns

pub returns : goal.returns
returns c =
    tree_from _ _ _ _ c.of.ensures (tree_made _ _ _ c.in_ok-nodes.ensures.walking c.in_ok-nodes.ensures.ended _ c.in_ok-counts.ensures c.args.columns c.requires.columns)
