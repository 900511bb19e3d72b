use Rattle.std.proofs.Common.{length}
use Rattle.sample_clock.proofs.countdown.+left_for.Given as goal

abbrev pub decreases-left_for : goal.decreases-left_for
decreases-left_for l = length l.events.now
