use Rattle.std.proofs.Common.{◌≡◌, length}
use Rattle.view_tables.specs.private.groups.Frames.{AreCosts}
use Rattle.view_tables.proofs.groups.weights.costs_in.Given as goal

abbrev pub invariant-loop-number : goal.invariant-loop-number
invariant-loop-number l = record {
  costs : AreCosts l.content l.costs.items;
  long : l.number ≡ length l.costs.items;
}
