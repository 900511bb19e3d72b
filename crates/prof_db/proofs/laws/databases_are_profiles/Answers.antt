use Rattle.prof_db.proofs.VersionOne.{read_one_owned}
use Rattle.prof_db.proofs.laws.databases_are_profiles.Goals as goal

pub returns : goal.returns
returns c = read_one_owned
