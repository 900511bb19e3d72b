use Rattle.std.proofs.Common.{◌≡◌, ◌++◌, take}
use Rattle.std.specs.List.{flat_map}
use Rattle.scope_find.specs.private.Spans.{range_events}
use Rattle.scope_find.proofs.span.put_item.Given as goal

abbrev pub invariant-loop-range : goal.invariant-loop-range
invariant-loop-range l = l.events.items ≡ l.fn.events.items ++ flat_map (range_events (l.number, l.item)) (take l.range-index l.pairs)
