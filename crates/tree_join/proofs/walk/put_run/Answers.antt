use Rattle.std.proofs.Common.{arith}
use Rattle.tree_join.proofs.Walks.{run_leads, run_ended, fewer_left}
use Rattle.tree_join.proofs.walk.put_run.Goals as goal

pub put_own-requires-clause-leads : goal.put_own-requires-clause-leads
put_own-requires-clause-leads c = run_leads c.args.at c.args.walkers.now _ _ _ c.first_but-limit.result c.in-Some.node c.loop-node.invariant c.first_but-limit.ensures c.in-Some.ensures.leads.1

pub loop-node-smaller : goal.loop-node-smaller
loop-node-smaller c = fewer_left _ _ _ _ _ _ c.in_ok-put_own.ensures.walking c.in_ok-put_own.ensures.order (omega arith)

pub returns-clause-next : goal.returns-clause-next
returns-clause-next c = run_ended c.args.at c.args.walkers.now _ _ _ c.first_but-limit.result c.loop-node.invariant c.first_but-limit.ensures c.index-walkers-at.result c.requires.at (c.leading.ensures.ends c.in_default.is)
