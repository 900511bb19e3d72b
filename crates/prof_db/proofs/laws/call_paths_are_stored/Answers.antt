use Rattle.prof_db.proofs.StoredPaths.{content_read, content_stored, content_tabled, expanded}
use Rattle.prof_db.proofs.laws.call_paths_are_stored.Goals as goal

pub returns-clause-paths : goal.returns-clause-paths
returns-clause-paths c = expanded

pub returns-clause-stored : goal.returns-clause-stored
returns-clause-stored c = content_stored

pub returns-clause-read : goal.returns-clause-read
returns-clause-read c = content_read

pub returns-clause-table : goal.returns-clause-table
returns-clause-table c = content_tabled
