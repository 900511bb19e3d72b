use Rattle.std.proofs.Common.{sym, arith}
use Rattle.scope_find.proofs.Painting.{first_owner}
use Rattle.scope_find.proofs.Walking.{none_owns, no_owner}
use Rattle.scope_find.proofs.walk.subprogram_walked.Goals as goal

pub returns-then-is_owner-clause-procedure : goal.returns-then-is_owner-clause-procedure
returns-then-is_owner-clause-procedure c = first_owner c.args.structure.now c.args.address c.loop-number.number (let lt = c.loop-number-test.true in let count = c.len-number-end.ensures.count in omega arith) (sym c.if-is_owner.ensures) c.loop-number.invariant

pub loop-number-preserved : goal.loop-number-preserved
loop-number-preserved c = none_owns c.args.structure.now c.args.address c.loop-number.number c.loop-number.invariant (sym c.if-is_owner.ensures)

pub returns-clause-procedure : goal.returns-clause-procedure
returns-clause-procedure c = no_owner c.args.structure.now c.args.address c.loop-number.number (let past = c.loop-number-test.false in let count = c.len-number-end.ensures.count in omega arith) c.loop-number.invariant
