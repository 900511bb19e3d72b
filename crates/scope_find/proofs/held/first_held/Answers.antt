use Rattle.scope_find.proofs.FirstHeld.{some_first, other_first, none_first}
use Rattle.scope_find.proofs.held.first_held.Goals as goal

pub returns-in-Some : goal.returns-in-Some
returns-in-Some c = some_first c.args.held.now c.args.inlined c.args.low c.in-Some.span.now c.range.result c.next.new.self c.in-Some.ensures.steps c.if-span-inlined.true (c.range.ensures.in_range tt)

pub returns-in_default : goal.returns-in_default
returns-in_default c = other_first c.args.held.now c.args.inlined c.args.low c.in-Some.span.now c.range.result c.next.new.self c.in-Some.ensures.steps c.if-span-inlined.false (c.range.ensures.in_range tt)

pub returns-in_default-2 : goal.returns-in_default-2
returns-in_default-2 c = none_first c.args.held.now c.args.inlined c.args.low c.range.result (rw c.in_default.is at c.next.ensures.steps).0 (c.range.ensures.in_range tt)
