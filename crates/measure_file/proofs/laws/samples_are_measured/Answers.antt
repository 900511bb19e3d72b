use Rattle.measure_file.proofs.Sampled.{sampled_measured}
use Rattle.measure_file.proofs.laws.samples_are_measured.Goals as goal

pub returns : goal.returns
returns c = sampled_measured
