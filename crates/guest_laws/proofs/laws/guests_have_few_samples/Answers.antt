use Rattle.guest_laws.proofs.Samples.{guests-have-few-samples}
use Rattle.guest_laws.proofs.laws.guests_have_few_samples.Goals as goal

pub returns : goal.returns
returns c = guests-have-few-samples
