use Rattle.view_tables.proofs.grouping.SortedSeen.{once_sorted, once_kept}
use Rattle.view_tables.proofs.groups.group.sort_once.Goals as goal

pub returns-clause-sorted : goal.returns-clause-sorted
returns-clause-sorted g c = once_sorted g.met.T.Ord.total g.met.T.Eq.laws g.met.T.Ord.matches_eq c.sort_unstable.new.self.items c.dedup.new.self.items c.sort_unstable.ensures.sorted c.dedup.ensures.filtered

pub returns-clause-kept : goal.returns-clause-kept
returns-clause-kept g c = once_kept g.met.T.Ord.total g.met.T.Eq.laws g.met.T.Ord.matches_eq c.args.values.now.items c.sort_unstable.new.self.items c.dedup.new.self.items c.sort_unstable.ensures.permutation c.dedup.ensures.filtered
