use Rattle.scope_find.specs.private.Painted.{ArePainted}
use Rattle.scope_find.proofs.painted.paint.Given as goal

abbrev pub invariant-loop-number : goal.invariant-loop-number
invariant-loop-number l = ArePainted l.structure l.addresses l.number l.painting
