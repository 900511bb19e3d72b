use Rattle.std.proofs.Common.{length, map, ◌-◌}
use Rattle.scope_types.specs.Limits.{most_scopes_in_all}
use Rattle.tree_join.specs.private.Walk.{FirstBut, Walking, walked_entries}
use Rattle.tree_join.proofs.walk.walk.Given as goal

abbrev pub invariant-loop-first : goal.invariant-loop-first
invariant-loop-first l = record {
  walking : Walking (map walked_entries l.fn.walkers) l.walkers l.order.items;
  first : FirstBut l.walkers (length l.walkers) (length l.walkers) l.first;
}

abbrev pub decreases-loop-first : goal.decreases-loop-first
decreases-loop-first l = most_scopes_in_all - length l.order.items
