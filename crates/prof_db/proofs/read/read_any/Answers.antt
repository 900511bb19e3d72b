use Rattle.prof_db.proofs.Owned.{given_profile}
use Rattle.prof_db.proofs.read.read_any.Goals as goal

pub returns-clause-profile : goal.returns-clause-profile
returns-clause-profile c = given_profile c.args.bytes.now c.read_content.result c.read_content.ensures
