use Rattle.std.proofs.Common.{◌≡◌, ◌-◌, ◌<◌, ◌++◌, length, map}
use Rattle.scope_find.specs.Found.{inline_scope}
use Rattle.scope_find.specs.Views.{inline_view}
use Rattle.scope_find.specs.private.Spans.{calls_at, into_number}
use Rattle.scope_find.proofs.walk.inlines_walked.Given as goal

abbrev pub invariant-loop-next : goal.invariant-loop-next
invariant-loop-next l = record {
  there : l.item < length l.structure.items;
  told : map inline_scope (calls_at l.structure l.address l.fn.subprogram) ≡ map inline_view l.inlines.items ++ map inline_scope (into_number l.structure l.address l.item);
}

abbrev pub decreases-loop-next : goal.decreases-loop-next
decreases-loop-next l = length l.structure.items - l.item
