use Rattle.std.proofs.Common.{◌≤◌, length}
use Rattle.cfi_unwind.proofs.index.unset_from.Given as goal

abbrev pub invariant-loop-low : goal.invariant-loop-low
invariant-loop-low l = l.low ≤ length l.ids

abbrev pub decreases-loop-low : goal.decreases-loop-low
decreases-loop-low l = l.low
