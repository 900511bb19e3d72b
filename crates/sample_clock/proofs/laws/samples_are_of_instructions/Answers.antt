use Rattle.sample_clock.proofs.Origins.{samples-own}
use Rattle.sample_clock.proofs.laws.samples_are_of_instructions.Goals as goal

pub returns : goal.returns
returns c = samples-own
