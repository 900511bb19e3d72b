use Rattle.std.proofs.Common.{◌≡◌, ◌≤◌, ◌++◌, length, drop, map, reverse}
use Rattle.tree_join.proofs.children.push_group.Given as goal

abbrev pub invariant-loop-left : goal.invariant-loop-left
invariant-loop-left l = record {
  within : l.left ≤ length l.group;
  pushed : l.stack.items ≡ l.initial.stack.items ++ map (λ s. s.index) (reverse (drop l.left l.group));
}

abbrev pub decreases-loop-left : goal.decreases-loop-left
decreases-loop-left l = l.left
