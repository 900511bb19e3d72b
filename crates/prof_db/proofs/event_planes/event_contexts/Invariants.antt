use Rattle.prof_db.specs.private.EventLists.{AreEventLists}
use Rattle.prof_db.proofs.event_planes.event_contexts.Given as goal

abbrev pub invariant-loop-node : goal.invariant-loop-node
invariant-loop-node l = AreEventLists l.columns.events l.columns.place l.contexts l.node l.lists.starts.items l.lists.entries.items l.lists.numbers.items
