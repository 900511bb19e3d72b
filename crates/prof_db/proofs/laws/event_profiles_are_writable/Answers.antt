use Rattle.prof_db.proofs.Profiles.{event_writable}
use Rattle.prof_db.proofs.laws.event_profiles_are_writable.Goals as goal

pub returns : goal.returns
returns c = event_writable
