use Rattle.std.proofs.Common.{◌≡◌, ◌+◌, drop}
use Rattle.view_tables.proofs.grouping.Covered.{left}
use Rattle.view_tables.proofs.groups.group.covered.Given as goal

abbrev pub invariant-loop-s : goal.invariant-loop-s
invariant-loop-s l = l.sum + left l.frames.ends.items l.frames.sums.items l.reach (drop l.s-index l.group) ≡ left l.frames.ends.items l.frames.sums.items 0 l.group
