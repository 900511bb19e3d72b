use Rattle.std.proofs.Common.{◌≡◌, map}
use Rattle.scope_types.specs.Columns.{period_of_column}
use Rattle.tree_types.specs.Values.{columns_below}
use Rattle.metric_sums.proofs.walk.column_periods.Given as goal

abbrev pub invariant-loop-column : goal.invariant-loop-column
invariant-loop-column l = l.all.items ≡ map (period_of_column l.periods) (columns_below l.column)
