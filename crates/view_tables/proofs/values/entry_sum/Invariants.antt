use Rattle.std.proofs.Common.{◌≡◌, sum_by, take}
use Rattle.view_tables.specs.private.Values.{amount}
use Rattle.view_tables.proofs.values.entry_sum.Given as goal

abbrev pub invariant-loop-e : goal.invariant-loop-e
invariant-loop-e l = l.sum ≡ sum_by (amount l.kind) (take l.e-index l.entries)
