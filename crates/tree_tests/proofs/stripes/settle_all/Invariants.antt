use Rattle.std.proofs.Common.{◌≡◌}
use Rattle.tree_tests.proofs.stripes.settle_all.Given as goal

abbrev pub invariant-loop-chunk : goal.invariant-loop-chunk
invariant-loop-chunk g l = (l.set.view ≡ l.initial.set.view) × g.E.Expand.fits l.expand l.memo
