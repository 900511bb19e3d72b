use Rattle.std.proofs.Common.{◌≡◌, ◌++◌, take}
use Rattle.prof_db.specs.private.EventParts.{event_list}
use Rattle.prof_db.proofs.event_planes.put_entries.Given as goal

abbrev pub invariant-loop-e : goal.invariant-loop-e
invariant-loop-e l = l.out.items ≡ l.initial.out.items ++ event_list l.columns.events l.columns.place (take l.e-index l.list)
