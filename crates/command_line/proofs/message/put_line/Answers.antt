use Rattle.command_line.proofs.Line.{line_put}
use Rattle.command_line.proofs.message.put_line.Goals as goal

pub returns : goal.returns
returns g c = line_put _ _ _ c.put.result c.put.ensures.answer
