use Rattle.eh_frame.proofs.ReadBack.{instructions_read_back}
use Rattle.eh_frame.proofs.laws.instructions_read_back.Goals as goal

pub returns : goal.returns
returns c = instructions_read_back
