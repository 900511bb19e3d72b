use Rattle.std.proofs.Common.{◌∙◌, sym, arith}
use Rattle.scope_find.proofs.Chains.{from_item, at_end, skip, call}
use Rattle.scope_find.proofs.Walking.{end_within}
use Rattle.scope_find.proofs.walk.next_walked.Goals as goal

pub loop-next-init : goal.loop-next-init
loop-next-init c = from_item c.args.structure.now c.args.number c.subroutine-end.result c.args.address c.subroutine-end.ensures

pub returns-then-is_called-clause-next : goal.returns-then-is_called-clause-next
returns-then-is_called-clause-next c =
    let lt = c.loop-next-test.true in
    let within = end_within c.args.structure.now c.requires.whole c.args.number c.subroutine-end.result c.subroutine-end.ensures in
    c.loop-next.invariant ∙ call c.args.structure.now c.args.address c.loop-next.next c.subroutine-end.result.next_after_subtree lt (omega arith) (sym c.if-is_called.ensures)

pub loop-next-preserved : goal.loop-next-preserved
loop-next-preserved c =
    let lt = c.loop-next-test.true in
    let within = end_within c.args.structure.now c.requires.whole c.args.number c.subroutine-end.result c.subroutine-end.ensures in
    c.loop-next.invariant ∙ skip c.args.structure.now c.args.address c.loop-next.next c.subroutine-end.result.next_after_subtree lt (omega arith) (sym c.if-is_called.ensures)

pub returns-clause-next : goal.returns-clause-next
returns-clause-next c = c.loop-next.invariant ∙ at_end c.args.structure.now c.args.address c.loop-next.next c.subroutine-end.result.next_after_subtree c.loop-next-test.false
