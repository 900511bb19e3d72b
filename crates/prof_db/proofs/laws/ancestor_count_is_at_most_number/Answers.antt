use Rattle.prof_db.proofs.LineRoom.{lines_have_room}
use Rattle.prof_db.proofs.laws.ancestor_count_is_at_most_number.Goals as goal

pub returns : goal.returns
returns c = lines_have_room
