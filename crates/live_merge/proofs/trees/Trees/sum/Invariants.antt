use Rattle.std.proofs.Common.{length}
use Rattle.scope_types.specs.Limits.{most_samples}
use Rattle.live_merge.proofs.Grown.{Going, OfParts}
use Rattle.live_merge.proofs.trees.Trees.sum.Given as goal

abbrev pub invariant-loop-first : goal.invariant-loop-first
invariant-loop-first l = Going l.columns most_samples (OfParts l.fn.self.trees.items) l.self.trees.items l.tree

abbrev pub decreases-loop-first : goal.decreases-loop-first
decreases-loop-first l = length l.self.trees.items
