use Rattle.std.proofs.Common.{◌≡◌, length}
use Rattle.scope_types.specs.Distinct.{samples_in}
use Rattle.tree_tests.proofs.plan.samples.Given as goal

abbrev pub invariant-loop-offset : goal.invariant-loop-offset
invariant-loop-offset l = (length l.ccts ≡ 2) × (samples_in l.ccts ≡ l.offset)
