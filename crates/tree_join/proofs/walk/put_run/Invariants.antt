use Rattle.std.proofs.Common.{length, ◌-◌}
use Rattle.scope_types.specs.Limits.{most_scopes_in_all}
use Rattle.tree_join.proofs.Walks.{Running}
use Rattle.tree_join.proofs.walk.put_run.Given as goal

abbrev pub invariant-loop-node : goal.invariant-loop-node
invariant-loop-node l = Running l.at l.fn.walkers l.fn.order.items l.walkers l.order.items

abbrev pub decreases-loop-node : goal.decreases-loop-node
decreases-loop-node l = most_scopes_in_all - length l.order.items
