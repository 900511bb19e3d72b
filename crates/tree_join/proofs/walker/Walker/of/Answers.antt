use Rattle.tree_join.proofs.Ends.{start_at}
use Rattle.tree_join.proofs.walker.Walker.of.Goals as goal

pub returns-clause-walks : goal.returns-clause-walks
returns-clause-walks c =
    start_at c.in_ok-children.children _ _ _ _ _ _ c.in_ok-children.ensures.nodes c.in_ok-children.ensures.chained c.nodes-nodes.ensures.paths c.nodes-nodes.ensures.before c.nodes-nodes.ensures.few
    c.ends.ensures.entries c.ends.ensures.indices c.in_ok-numbers.ensures c.new-stack.ensures.items _ c.in_ok-push.ensures.1 c.in_ok-push.ensures.2
