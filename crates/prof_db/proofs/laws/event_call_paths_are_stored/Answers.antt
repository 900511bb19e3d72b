use Rattle.prof_db.proofs.StoredPaths.{event_content_read, event_content_stored, event_content_tabled}
use Rattle.prof_db.proofs.laws.event_call_paths_are_stored.Goals as goal

pub returns-clause-stored : goal.returns-clause-stored
returns-clause-stored c = event_content_stored

pub returns-clause-read : goal.returns-clause-read
returns-clause-read c = event_content_read

pub returns-clause-table : goal.returns-clause-table
returns-clause-table c events runs naming paths place stored inside = event_content_tabled events runs naming paths stored place inside
