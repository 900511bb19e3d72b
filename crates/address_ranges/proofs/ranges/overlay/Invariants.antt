use Rattle.std.proofs.Common.{◌≡◌, ◌+◌, ◌-◌, ◌≤◌, ◌++◌, length, None}
use Rattle.address_ranges.proofs.Steps.{merged}
use Rattle.address_ranges.proofs.ranges.overlay.Given as goal

abbrev pub invariant-loop-start : goal.invariant-loop-start
invariant-loop-start l = record {
  room : length l.steps.items + (length l.upper_left + length l.lower_left) ≤ length l.upper + length l.lower;
  so_far :
      l.steps.items ++ merged (length l.upper + length l.lower - length l.steps.items) l.upper_holder l.upper_left l.lower_holder l.lower_left
      ≡ merged (length l.upper + length l.lower) None l.upper None l.lower;
}

abbrev pub decreases-loop-start : goal.decreases-loop-start
decreases-loop-start l = length l.upper_left + length l.lower_left
