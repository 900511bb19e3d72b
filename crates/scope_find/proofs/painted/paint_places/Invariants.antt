use Rattle.std.proofs.Common.{take}
use Rattle.scope_find.specs.private.Painted.{ArePaintedBy}
use Rattle.scope_find.proofs.painted.paint_places.Given as goal

abbrev pub invariant-loop-at : goal.invariant-loop-at
invariant-loop-at l = ArePaintedBy l.number l.item l.initial.painting l.painting (take l.at l.taken)
