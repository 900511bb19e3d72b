use Rattle.cfi_table.proofs.Room.{entries_have_room, instructions_have_room}
use Rattle.cfi_table.proofs.laws.counts_are_at_most_bytes.Goals as goal

pub returns-clause-entries : goal.returns-clause-entries
returns-clause-entries c = entries_have_room

pub returns-clause-instructions : goal.returns-clause-instructions
returns-clause-instructions c = instructions_have_room
