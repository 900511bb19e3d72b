use Rattle.std.proofs.Common.{◌≤◌}
use Rattle.scope_types.specs.Distinct.{samples_in}
use Rattle.stripe_table.proofs.tests.paths.Given as goal

abbrev pub invariant-loop-number : goal.invariant-loop-number
invariant-loop-number l = samples_in l.ccts ≤ l.number
