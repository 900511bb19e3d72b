use Rattle.rv_run.proofs.Cutting.{ended_is_still, longer_slice}
use Rattle.rv_run.proofs.laws.ended_harts_do_nothing.Goals as goal

pub returns-clause-nothing : goal.returns-clause-nothing
returns-clause-nothing c = ended_is_still

pub returns-clause-longer : goal.returns-clause-longer
returns-clause-longer c = longer_slice
