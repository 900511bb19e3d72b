use Rattle.std.proofs.Common.{length, ◌-◌}
use Rattle.tree_types.specs.Nodes.{no_parent}
use Rattle.live_merge.specs.private.Adding.{AreNext, Walking}
use Rattle.live_merge.proofs.walk.walk.Given as goal

abbrev pub invariant-loop-node : goal.invariant-loop-node
invariant-loop-node l = Walking l.a l.b l.walked.left.items l.walked.right.items l.walked.nodes.items × AreNext l.a l.b l.walked

abbrev pub decreases-loop-node : goal.decreases-loop-node
decreases-loop-node l = no_parent - length l.walked.nodes.items
