use Rattle.std.proofs.Common.{◌≡◌, take}
use Rattle.prof_stats.specs.private.Rows.{entry_stats}
use Rattle.prof_stats.proofs.spread.spread_of.Given as goal

abbrev pub invariant-loop-e : goal.invariant-loop-e
invariant-loop-e l = l.stats ≡ entry_stats l.kind (take l.e-index l.entries)
