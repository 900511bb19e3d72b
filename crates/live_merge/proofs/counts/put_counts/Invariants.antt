use Rattle.std.proofs.Common.{◌≡◌, ◌++◌, map, take}
use Rattle.live_merge.specs.private.Adding.{count_with}
use Rattle.live_merge.proofs.counts.put_counts.Given as goal

abbrev pub invariant-loop-count : goal.invariant-loop-count
invariant-loop-count l = l.all.items ≡ l.initial.all.items ++ map (count_with l.numbers) (take l.count-index l.counts)
