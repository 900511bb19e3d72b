use Rattle.std.proofs.Common.{◌≡◌}
use Rattle.std.specs.Prelude.{slice_index}
use Rattle.view_tables.specs.private.groups.Frames.{sum_below}
use Rattle.view_tables.proofs.grouping.NodeWeights.{AreSumsTo}
use Rattle.view_tables.proofs.groups.weights.sums_of.Given as goal

abbrev pub invariant-loop-weight : goal.invariant-loop-weight
invariant-loop-weight l = record {
  sum : l.sum ≡ sum_below (slice_index l.weights) l.weight-index;
  sums : AreSumsTo l.weights l.weight-index l.sums.items;
}
