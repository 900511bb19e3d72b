use Rattle.prof_db.proofs.VersionOne.{stored_one_read}
use Rattle.prof_db.proofs.laws.stored_contents_are_read.Goals as goal

pub returns : goal.returns
returns c = stored_one_read
