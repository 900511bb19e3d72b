use Rattle.prof_db.proofs.StoredRules.{stored_read}
use Rattle.prof_db.proofs.laws.stored_event_contents_are_read.Goals as goal

pub returns : goal.returns
returns c = stored_read
