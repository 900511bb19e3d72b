use Rattle.guest_laws.proofs.Runs.{few-samples}
use Rattle.guest_laws.proofs.laws.runs_have_few_samples.Goals as goal

pub returns : goal.returns
returns c = few-samples
