use Rattle.std.proofs.Common.{◌≡◌, sum_by, take}
use Rattle.view_tables.specs.private.Values.{counted_by}
use Rattle.view_tables.proofs.values.path_count.Given as goal

abbrev pub invariant-loop-column : goal.invariant-loop-column
invariant-loop-column l = l.count ≡ sum_by (λ entries. sum_by (counted_by l.content.period) entries) (take l.column l.content.profiles)
