use Rattle.std.proofs.Common.{◌≡◌, ◌++◌, take}
use Rattle.tree_join.specs.private.Sums.{counts_of}
use Rattle.tree_join.proofs.counts.put_counts.Given as goal

abbrev pub invariant-loop-end : goal.invariant-loop-end
invariant-loop-end l = l.counts.items ≡ l.initial.counts.items ++ counts_of l.numbers (take l.end-index l.ends)
