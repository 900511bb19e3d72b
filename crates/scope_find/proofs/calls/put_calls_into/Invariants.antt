use Rattle.std.proofs.Common.{◌-◌, length}
use Rattle.scope_find.specs.private.Calls.{IsWalked}
use Rattle.scope_find.proofs.calls.put_calls_into.Given as goal

abbrev pub invariant-loop-next : goal.invariant-loop-next
invariant-loop-next l = IsWalked l.structure l.held.keys l.subprogram l.start l.initial.calls.all.items l.item l.levels l.calls.all.items l.calls.latest.items

abbrev pub decreases-loop-next : goal.decreases-loop-next
decreases-loop-next l = length l.structure.items - l.item
