use Rattle.std.proofs.Common.{refl}
use Rattle.hpc_top.proofs.Outcomes.{no_request}
use Rattle.hpc_top.proofs.call.answer.Goals as goal

pub returns-in-Err-clause-answer : goal.returns-in-Err-clause-answer
returns-in-Err-clause-answer g c = no_request _ _ _ refl
