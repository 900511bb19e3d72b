use Rattle.scope_find.proofs.CallNodes.{calls_kept, call_into}
use Rattle.scope_find.proofs.painted.call_for.Goals as goal

pub returns-clause-keeps : goal.returns-clause-keeps
returns-clause-keeps c = calls_kept _ c.args.calls.now.items c.put_node.new.calls.items _ c.in_ok-call.ensures

pub returns-clause-call : goal.returns-clause-call
returns-clause-call c = call_into c.args.item c.args.outer _ c.args.calls.now.items c.put_node.new.calls.items c.if-outer-eq-UNKEPT.false c.in_ok-call.ensures
