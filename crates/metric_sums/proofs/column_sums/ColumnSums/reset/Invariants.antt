use Rattle.std.proofs.Common.{◌≡◌, replicate}
use Rattle.metric_sums.specs.private.Sums.{no_paths}
use Rattle.metric_sums.proofs.column_sums.ColumnSums.reset.Given as goal

abbrev pub invariant-loop : goal.invariant-loop
invariant-loop l = l.self-inside.sums.items ≡ replicate l.counter no_paths
