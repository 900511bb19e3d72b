use Rattle.thread_cct.proofs.Listed.{some_frames}
use Rattle.thread_cct.proofs.path_list.PathList.frames.Goals as goal

pub returns-clause-some : goal.returns-clause-some
returns-clause-some c = some_frames c.self.inside.pcs.items c.self.inside.paths.items c.args.self.now c.self.view_is c.self.invariant.each
