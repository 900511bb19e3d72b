use Rattle.std.proofs.Common.{◌≡◌, ◌++◌, length, map}
use Rattle.scope_find.specs.Found.{inline_scope}
use Rattle.scope_find.specs.Views.{inline_view}
use Rattle.scope_find.specs.private.Calls.{HasCalls}
use Rattle.scope_find.specs.private.Spans.{into_number, calls_at}
use Rattle.scope_find.proofs.intervals.inlines_in.Given as goal

abbrev pub invariant-loop-left : goal.invariant-loop-left
invariant-loop-left l = record {
  has : HasCalls l.structure l.calls l.address l.item;
  told : map inline_scope (calls_at l.structure l.address l.fn.subprogram) ≡ map inline_view l.inlines.items ++ map inline_scope (into_number l.structure l.address l.item);
  few : l.left ≡ length (into_number l.structure l.address l.item);
}

abbrev pub decreases-loop-left : goal.decreases-loop-left
decreases-loop-left l = l.left
