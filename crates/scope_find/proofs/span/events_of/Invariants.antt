use Rattle.std.proofs.Common.{◌≡◌, take}
use Rattle.std.specs.List.{flat_map}
use Rattle.scope_find.specs.Found.{numbered}
use Rattle.scope_find.specs.private.Spans.{item_events}
use Rattle.scope_find.proofs.span.events_of.Given as goal

abbrev pub invariant-loop-number : goal.invariant-loop-number
invariant-loop-number l = l.events.items ≡ flat_map (item_events l.structure) (take l.number (numbered l.structure))
