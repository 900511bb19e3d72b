use Rattle.rv_run.proofs.Cutting.{few_plain, longer_plain}
use Rattle.rv_run.proofs.laws.plain_instructions_end_by_themselves.Goals as goal

pub returns-clause-few : goal.returns-clause-few
returns-clause-few c = few_plain

pub returns-clause-longer : goal.returns-clause-longer
returns-clause-longer c = longer_plain
