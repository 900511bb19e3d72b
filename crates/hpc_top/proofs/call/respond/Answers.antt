use Rattle.hpc_top.proofs.Outcomes.{or_memory}
use Rattle.hpc_top.proofs.call.respond.Goals as goal

pub returns-clause-answer : goal.returns-clause-answer
returns-clause-answer g c = or_memory _ _ _ _ c.answer-status.ensures.answer c.tell.ensures.answer
