use Rattle.prof_db.proofs.Owned.{read_few_runs, read_owned}
use Rattle.prof_db.proofs.laws.event_databases_are_profiles.Goals as goal

pub returns-clause-profile : goal.returns-clause-profile
returns-clause-profile c = read_owned

pub returns-clause-few_runs : goal.returns-clause-few_runs
returns-clause-few_runs c = read_few_runs
