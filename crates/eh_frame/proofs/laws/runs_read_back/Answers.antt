use Rattle.eh_frame.proofs.Runs.{runs_read_back}
use Rattle.eh_frame.proofs.laws.runs_read_back.Goals as goal

pub returns : goal.returns
returns c = runs_read_back
