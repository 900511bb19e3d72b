use Rattle.std.proofs.Common.{◌≡◌}
use Rattle.tree_tests.proofs.stripes.settle_pieces.Given as goal

abbrev pub invariant-loop-stripe : goal.invariant-loop-stripe
invariant-loop-stripe l = l.set.view ≡ l.initial.set.view
