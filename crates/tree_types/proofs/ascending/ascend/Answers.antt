use Rattle.tree_types.proofs.SortedOnce.{sorted_once}
use Rattle.tree_types.proofs.ascending.ascend.Goals as goal

pub returns : goal.returns
returns g c = sorted_once g.met.T.Ord.total c.requires g.met.T.Eq.laws g.met.T.Ord.matches_eq c.args.values.now.items c.sort_unstable.new.self.items c.dedup.new.self.items
    c.sort_unstable.ensures.permutation c.sort_unstable.ensures.sorted c.dedup.ensures.filtered
