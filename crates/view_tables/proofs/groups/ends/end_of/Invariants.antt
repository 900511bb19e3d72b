use Rattle.std.proofs.Common.{◌-◌, length}
use Rattle.view_tables.proofs.grouping.Descendants.{IsRun}
use Rattle.view_tables.proofs.groups.ends.end_of.Given as goal

abbrev pub invariant-loop-end : goal.invariant-loop-end
invariant-loop-end l = IsRun l.content l.number l.end

abbrev pub decreases-loop-end : goal.decreases-loop-end
decreases-loop-end l = length l.content.nodes - l.end
