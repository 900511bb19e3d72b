use Rattle.std.proofs.Common.{◌+◌}
use Rattle.tree_join.proofs.Sums.{SoFar}
use Rattle.tree_join.proofs.counts.add_up.Given as goal

abbrev pub invariant-loop-count : goal.invariant-loop-count
invariant-loop-count l = SoFar l.counts l.sums.items l.last (l.count-index + 1)
