use Rattle.prof_db.proofs.Profiles.{writable}
use Rattle.prof_db.proofs.laws.profiles_are_writable.Goals as goal

pub returns : goal.returns
returns c = writable
