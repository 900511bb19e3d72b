use Rattle.scope_find.specs.private.Intervals.{IsSwept}
use Rattle.scope_find.proofs.intervals.AddressIntervals.of.Given as goal

abbrev pub invariant-loop-index : goal.invariant-loop-index
invariant-loop-index l = IsSwept l.structure l.events.items l.index l.held.keys l.intervals.items l.calls.all.items l.calls.latest.items
