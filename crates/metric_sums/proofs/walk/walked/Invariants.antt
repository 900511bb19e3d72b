use Rattle.std.proofs.Common.{◌-◌}
use Rattle.metric_sums.specs.private.Ancestors.{period_in}
use Rattle.metric_sums.specs.private.Walking.{At}
use Rattle.metric_sums.proofs.walk.walked.Given as goal

abbrev pub invariant-loop-done : goal.invariant-loop-done
invariant-loop-done l = At (period_in l.periods) l.tree (l.nodes - l.done) l.walk.ancestors.items l.walk.left l.walk.out.items
