use Rattle.std.proofs.Common.{length, ◌-◌, ◌<◌, ◌≤◌}
use Rattle.dwarf_inline.specs.private.Ends.{after_at}
use Rattle.dwarf_inline.proofs.ends.after_from.Given as goal

abbrev pub invariant-loop-after : goal.invariant-loop-after
invariant-loop-after l = record {
  behind : l.k < l.after;
  within : l.after ≤ length l.items;
  covered : l.after ≤ after_at l.info l.k;
}

abbrev pub decreases-loop-after : goal.decreases-loop-after
decreases-loop-after l = length l.items - l.after
