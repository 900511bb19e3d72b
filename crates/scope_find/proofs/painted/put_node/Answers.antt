use Rattle.std.proofs.Common.{arith}
use Rattle.scope_find.proofs.CallNodes.{put_new}
use Rattle.scope_find.proofs.painted.put_node.Goals as goal

pub returns-in-Some : goal.returns-in-Some
returns-in-Some c = put_new c.args.node c.args.calls.now.items c.push.new.self.items _ c.in_ok-push.ensures.items (let few = c.requires in let l = c.len.ensures in let o = c.args.calls.now.ok.0 in omega arith)

pub returns-in_default : goal.returns-in_default
returns-in_default c = put_new c.args.node c.args.calls.now.items c.push.new.self.items _ c.in_ok-push.ensures.items (let few = c.requires in let l = c.len.ensures in let o = c.args.calls.now.ok.0 in omega arith)
