use Rattle.tree_join.proofs.Sums.{summed_ok}
use Rattle.tree_join.proofs.counts.added_up.Goals as goal

pub returns : goal.returns
returns c = summed_ok _ _ _ _ c.sort.ensures.moved c.as_slice.ensures.value c.add_up.ensures
