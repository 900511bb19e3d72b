use Rattle.std.proofs.Common.{◌≡◌, ◌≤◌, ◌==◌, take, sum_by}
use Rattle.scope_types.specs.Columns.{hart_of_column}
use Rattle.run_report.specs.private.Counted.{samples_where}
use Rattle.run_report.proofs.counts.hart_samples.Given as goal

abbrev pub invariant-loop-column : goal.invariant-loop-column
invariant-loop-column l =
    (l.samples ≡ samples_where (λ column. hart_of_column l.events column == l.hart) l.ccts l.column)
    × (l.samples ≤ sum_by (sum_by (λ c. c.count)) (take l.column l.ccts))
