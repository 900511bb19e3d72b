use Rattle.std.proofs.Common.{◌≡◌}
use Rattle.scope_find.specs.private.Spans.{inlined_from, into_number}
use Rattle.scope_find.proofs.walk.next_walked.Given as goal

abbrev pub invariant-loop-next : goal.invariant-loop-next
invariant-loop-next l = into_number l.structure l.address l.fn.number ≡ inlined_from l.structure l.address l.next l.end
