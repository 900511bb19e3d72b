use Rattle.std.proofs.Common.{◌≡◌, length}
use Rattle.scope_types.specs.Distinct.{samples_in}
use Rattle.tree_tests.proofs.appended.deep.Given as goal

abbrev pub invariant-loop-number : goal.invariant-loop-number
invariant-loop-number l = (length l.ccts ≡ 1) × (samples_in l.ccts ≡ l.number)
