use Rattle.std.proofs.Common.{◌≡◌, take, sum_by}
use Rattle.run_report.proofs.counts.all_samples.Given as goal

abbrev pub invariant-loop-column : goal.invariant-loop-column
invariant-loop-column l = l.samples ≡ sum_by (sum_by (λ c. c.count)) (take l.column l.ccts)
