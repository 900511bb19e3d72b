use Rattle.std.proofs.Common.{◌≡◌, ◌≤◌, length}
use Rattle.dwarf_inline.specs.private.Ends.{AreAftersFrom}
use Rattle.dwarf_inline.proofs.ends.afters_of.Given as goal

abbrev pub invariant-loop-k : goal.invariant-loop-k
invariant-loop-k l = record {
  within : l.k ≤ length l.items;
  long : length l.afters.items ≡ length l.items;
  afters : AreAftersFrom l.info l.k l.afters.items;
}

abbrev pub decreases-loop-k : goal.decreases-loop-k
decreases-loop-k l = l.k
