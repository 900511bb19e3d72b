use Rattle.sample_clock.proofs.RetiredSamples.{retired-samples}
use Rattle.sample_clock.proofs.laws.retired_samples_are_counted.Goals as goal

pub returns : goal.returns
returns c = retired-samples
