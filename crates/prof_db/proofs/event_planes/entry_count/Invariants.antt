use Rattle.std.proofs.Common.{◌≡◌, ◌-◌, ◌^◌}
use Rattle.std.specs.Prelude.{min}
use Rattle.prof_db.specs.private.EventEntries.{entries_of_event}
use Rattle.prof_db.proofs.event_planes.entry_count.Given as goal

abbrev pub invariant-loop-hart : goal.invariant-loop-hart
invariant-loop-hart l = l.count ≡ min (entries_of_event l.columns.events l.columns.place l.profiles l.hart) (2 ^ 64 - 1)
