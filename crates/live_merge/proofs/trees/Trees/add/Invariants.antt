use Rattle.std.proofs.Common.{◌≡◌, ◌+◌, false, length}
use Rattle.tree_types.specs.Tree.{counts_in}
use Rattle.live_merge.specs.private.Epochs.{counted_by}
use Rattle.live_merge.proofs.Grown.{AddsTo, Going}
use Rattle.live_merge.proofs.trees.Trees.add.Given as goal

abbrev pub invariant-loop-last : goal.invariant-loop-last
invariant-loop-last l = (l.self.is_over ≡ false) × Going l.fn.tree.columns (counted_by l.fn.self.trees.items + counts_in l.fn.tree.counts) (AddsTo l.fn.self.trees.items l.fn.tree) l.self.trees.items l.sum

abbrev pub decreases-loop-last : goal.decreases-loop-last
decreases-loop-last l = length l.self.trees.items
