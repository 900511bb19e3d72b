use Rattle.std.proofs.Common.{length, ◌-◌, ◌<◌, ◌≤◌}
use Rattle.dwarf_inline.specs.private.Ends.{entry_end}
use Rattle.dwarf_inline.proofs.ends.end_from.Given as goal

abbrev pub invariant-loop-end : goal.invariant-loop-end
invariant-loop-end l = record {
  behind : l.index < l.end;
  within : l.end ≤ length l.depths;
  covered : l.end ≤ entry_end l.depths l.index l.depth;
}

abbrev pub decreases-loop-end : goal.decreases-loop-end
decreases-loop-end l = length l.depths - l.end
