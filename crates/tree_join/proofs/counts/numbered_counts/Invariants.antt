use Rattle.std.proofs.Common.{◌≡◌, take}
use Rattle.tree_join.specs.private.Sums.{all_counts}
use Rattle.tree_join.proofs.counts.numbered_counts.Given as goal

abbrev pub invariant-loop-walker : goal.invariant-loop-walker
invariant-loop-walker l = l.counts.items ≡ all_counts (take l.walker-index l.walkers)
