use Rattle.prof_db.specs.private.EventLists.{AreHartLists}
use Rattle.prof_db.proofs.event_planes.event_profiles.Given as goal

abbrev pub invariant-loop-hart : goal.invariant-loop-hart
invariant-loop-hart l = AreHartLists l.columns.events l.columns.place l.numbers l.profiles l.hart l.starts.items l.out.items
