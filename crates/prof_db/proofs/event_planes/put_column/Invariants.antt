use Rattle.std.proofs.Common.{◌≡◌, ◌++◌, map, take}
use Rattle.prof_db.specs.private.EventParts.{renumbered_entry}
use Rattle.prof_db.proofs.event_planes.put_column.Given as goal

abbrev pub invariant-loop-e : goal.invariant-loop-e
invariant-loop-e l = l.out.items ≡ l.initial.out.items ++ map (renumbered_entry l.numbers) (take l.e-index l.list)
