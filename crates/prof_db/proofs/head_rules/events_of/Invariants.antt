use Rattle.std.proofs.Common.{◌≡◌, take, map}
use Rattle.prof_db.specs.HeadRules.{event_of}
use Rattle.prof_db.proofs.head_rules.events_of.Given as goal

abbrev pub invariant-loop-e : goal.invariant-loop-e
invariant-loop-e l = l.all.items ≡ map event_of (take l.e-index l.events)
