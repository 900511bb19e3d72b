use Rattle.std.proofs.Common.{length}
use Rattle.prof_bytes.proofs.leb.+seven_bits_of.Given as goal

abbrev pub decreases-seven_bits_of : goal.decreases-seven_bits_of
decreases-seven_bits_of l = length l.group.now
