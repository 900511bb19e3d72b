use Rattle.hpc_top.proofs.Following.{follows}
use Rattle.hpc_top.proofs.call.hpc_main.Goals as goal

pub returns-clause-follows : goal.returns-clause-follows
returns-clause-follows g c = follows _ _ _ c.respond.ensures.answer
