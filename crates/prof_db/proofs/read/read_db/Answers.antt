use Rattle.prof_db.proofs.VersionOne.{given_one}
use Rattle.prof_db.proofs.read.read_db.Goals as goal

pub returns-clause-profile : goal.returns-clause-profile
returns-clause-profile c = given_one c.args.bytes.now c.read_one.result c.read_one.ensures
