use Rattle.std.proofs.Common.{◌≡◌, ◌≤◌, length}
use Rattle.scope_types.specs.Distinct.{samples_in}
use Rattle.tree_tests.proofs.appended.counted.Given as goal

abbrev pub invariant-loop-index : goal.invariant-loop-index
invariant-loop-index l = (length l.ccts ≡ l.columns) × (samples_in l.ccts ≤ l.index)
