use Rattle.std.proofs.Common.{◌≡◌, sum_by, take}
use Rattle.view_tables.specs.private.Values.{counted_by}
use Rattle.view_tables.proofs.values.column_samples.Given as goal

abbrev pub invariant-loop-e : goal.invariant-loop-e
invariant-loop-e l = l.count ≡ sum_by (counted_by l.period) (take l.e-index l.entries)
