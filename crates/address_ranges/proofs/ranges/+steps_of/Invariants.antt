use Rattle.std.proofs.Common.{length}
use Rattle.address_ranges.proofs.ranges.+steps_of.Given as goal

abbrev pub decreases-steps_of : goal.decreases-steps_of
decreases-steps_of g l = length l.items.now
