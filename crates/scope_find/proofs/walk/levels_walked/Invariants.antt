use Rattle.std.proofs.Common.{◌≡◌, ◌+◌, ◌-◌, ◌<◌, ◌≤◌, length}
use Rattle.scope_find.specs.private.Spans.{calls_at, into_number}
use Rattle.scope_find.proofs.walk.levels_walked.Given as goal

abbrev pub invariant-loop-next : goal.invariant-loop-next
invariant-loop-next l = record {
  there : l.item < length l.structure.items;
  few : l.levels ≤ l.item;
  told : length (calls_at l.structure l.address l.fn.subprogram) ≡ l.levels + length (into_number l.structure l.address l.item);
}

abbrev pub decreases-loop-next : goal.decreases-loop-next
decreases-loop-next l = length l.structure.items - l.item
