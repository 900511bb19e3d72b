use Rattle.std.proofs.Common.{◌≤◌, length}
use Rattle.view_tables.specs.private.groups.Frames.{AreWeights}
use Rattle.view_tables.proofs.groups.weights.weights_in.Given as goal

abbrev pub invariant-loop-number : goal.invariant-loop-number
invariant-loop-number l = record {
  weights : AreWeights l.view l.content l.number l.weights.items;
  within : l.number ≤ length l.content.nodes;
}

abbrev pub decreases-loop-number : goal.decreases-loop-number
decreases-loop-number l = l.number
