use Rattle.std.proofs.Common.{◌≡◌, ◌+◌, length}
use Rattle.view_tables.specs.private.Values.{path_of_node}
use Rattle.view_tables.specs.private.top.Rows.{LiesBelow}
use Rattle.view_tables.proofs.top.depth.scopes_below.Given as goal

abbrev pub invariant-loop-at : goal.invariant-loop-at
invariant-loop-at l = record {
  depth : l.count + length (path_of_node l.content l.at) ≡ length (path_of_node l.content l.from);
  below : LiesBelow l.content l.at l.ancestor;
}

abbrev pub decreases-loop-at : goal.decreases-loop-at
decreases-loop-at l = length (path_of_node l.content l.at)
