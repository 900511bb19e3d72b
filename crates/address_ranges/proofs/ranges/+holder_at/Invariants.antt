use Rattle.std.proofs.Common.{length}
use Rattle.address_ranges.proofs.ranges.+holder_at.Given as goal

abbrev pub decreases-holder_at : goal.decreases-holder_at
decreases-holder_at l = length l.steps.now
