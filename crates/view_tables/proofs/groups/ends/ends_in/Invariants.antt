use Rattle.std.proofs.Common.{◌≤◌, length}
use Rattle.view_tables.specs.private.groups.Frames.{AreEnds}
use Rattle.view_tables.proofs.groups.ends.ends_in.Given as goal

abbrev pub invariant-loop-number : goal.invariant-loop-number
invariant-loop-number l = record {
  ends : AreEnds l.content l.number l.ends.items;
  within : l.number ≤ length l.content.nodes;
}

abbrev pub decreases-loop-number : goal.decreases-loop-number
decreases-loop-number l = l.number
