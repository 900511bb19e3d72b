use Rattle.std.proofs.Common.{◌≡◌, take}
use Rattle.scope_types.specs.Events.{periods_of}
use Rattle.prof_db.proofs.head_rules.periods_of.Given as goal

abbrev pub invariant-loop-e : goal.invariant-loop-e
invariant-loop-e l = l.periods.items ≡ periods_of (take l.e-index l.events)
