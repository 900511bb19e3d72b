use Rattle.prof_db.proofs.BackFile.{read_again, read_spelled}
use Rattle.prof_db.proofs.laws.event_databases_are_spelled.Goals as goal

pub returns-clause-bytes : goal.returns-clause-bytes
returns-clause-bytes c = read_spelled

pub returns-clause-again : goal.returns-clause-again
returns-clause-again c = read_again
