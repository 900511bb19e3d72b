use Rattle.std.proofs.Common.{length, ◌≤◌}
use Rattle.dwarf_inline.specs.private.Ends.{AreEndsFrom}
use Rattle.dwarf_inline.proofs.ends.ends_among.Given as goal

abbrev pub invariant-loop-index : goal.invariant-loop-index
invariant-loop-index l = record {
  within : l.index ≤ length l.depths;
  ends : AreEndsFrom l.depths l.index l.ends.items;
}

abbrev pub decreases-loop-index : goal.decreases-loop-index
decreases-loop-index l = l.index
