use Rattle.prof_db.proofs.VersionOne.{read_one_again, read_one_spelled}
use Rattle.prof_db.proofs.laws.databases_are_spelled.Goals as goal

pub returns-clause-bytes : goal.returns-clause-bytes
returns-clause-bytes c = read_one_spelled

pub returns-clause-again : goal.returns-clause-again
returns-clause-again c = read_one_again
