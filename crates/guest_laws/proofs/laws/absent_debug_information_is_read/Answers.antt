use Rattle.guest_laws.proofs.Empty.{no_entries, no_items, no_tables}
use Rattle.guest_laws.proofs.laws.absent_debug_information_is_read.Goals as goal

pub returns-clause-entries : goal.returns-clause-entries
returns-clause-entries c = no_entries

pub returns-clause-lines : goal.returns-clause-lines
returns-clause-lines c = no_tables

pub returns-clause-structure : goal.returns-clause-structure
returns-clause-structure c = no_items
