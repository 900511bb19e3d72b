use Rattle.std.proofs.Common.{◌+◌}
use Rattle.scope_find.proofs.Procedures.{first_within}
use Rattle.scope_find.proofs.Chains.{next_leaf, next_some, next_far, next_none}
use Rattle.scope_find.proofs.held.next_inlined.Goals as goal

pub returns-in-Some-clause-within : goal.returns-in-Some-clause-within
returns-in-Some-clause-within c = first_within c.args.structure.now c.args.held.now.keys c.requires.spans _ (c.args.item + 1) c.in-Some.number c.in-Some.ensures

pub returns-in-Some-clause-next : goal.returns-in-Some-clause-next
returns-in-Some-clause-next c = next_some c.args.structure.now c.args.held.now.keys c.args.item c.in-Some.number c.subroutine-end.result c.subroutine-end.ensures c.in-Some.ensures c.if-number-end.true

pub returns-then-end-low-clause-next : goal.returns-then-end-low-clause-next
returns-then-end-low-clause-next c = next_leaf c.args.structure.now c.args.held.now.keys c.args.item c.subroutine-end.result c.subroutine-end.ensures c.if-end-low.true

pub returns-in_default-clause-next : goal.returns-in_default-clause-next
returns-in_default-clause-next c = next_far c.args.structure.now c.args.held.now.keys c.args.item c.in-Some.number c.subroutine-end.result c.subroutine-end.ensures c.in-Some.ensures c.if-number-end.false

pub returns-in_default-2-clause-next : goal.returns-in_default-2-clause-next
returns-in_default-2-clause-next c = next_none c.args.structure.now c.args.held.now.keys c.args.item c.subroutine-end.result c.subroutine-end.ensures (rw c.in_default.is at c.first_held.ensures)
