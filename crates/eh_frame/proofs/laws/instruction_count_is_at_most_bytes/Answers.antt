use Rattle.eh_frame.proofs.Room.{lists_have_room}
use Rattle.eh_frame.proofs.laws.instruction_count_is_at_most_bytes.Goals as goal

pub returns : goal.returns
returns c = lists_have_room
