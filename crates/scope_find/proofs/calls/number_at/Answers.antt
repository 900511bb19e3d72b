use Rattle.std.proofs.Common.{arith}
use Rattle.scope_find.proofs.CallsFound.{nothing_before, last_is, last_other, no_call}
use Rattle.scope_find.proofs.calls.number_at.Goals as goal

pub returns-then-count-eq0 : goal.returns-then-count-eq0
returns-then-count-eq0 c = nothing_before c.args.calls.now c.args.item c.args.address c.count_to-count.result c.requires c.count_to-count.ensures (omega arith)

pub returns-then-last-item : goal.returns-then-last-item
returns-then-last-item c = last_is c.args.calls.now c.args.item c.args.address c.count_to-count.result c.requires c.count_to-count.ensures (omega arith) no_call c.if-last-item.true

pub returns : goal.returns
returns c = last_other c.args.calls.now c.args.item c.args.address c.count_to-count.result c.requires c.count_to-count.ensures (omega arith) no_call c.if-last-item.false
