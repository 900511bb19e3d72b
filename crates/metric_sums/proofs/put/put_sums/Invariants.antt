use Rattle.std.proofs.Common.{◌≡◌, ◌-◌, ◌++◌, length}
use Rattle.std.specs.Prelude.{reverse}
use Rattle.metric_sums.specs.private.Ancestors.{period_in, values_of_sums}
use Rattle.metric_sums.proofs.put.put_sums.Given as goal

abbrev pub invariant-loop-done : goal.invariant-loop-done
invariant-loop-done l = reverse l.out.items ≡ values_of_sums (period_in l.periods) l.node l.sums (length l.sums - l.done) l.done ++ reverse l.initial.out.items
