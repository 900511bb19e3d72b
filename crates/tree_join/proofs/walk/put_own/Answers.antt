use Rattle.std.proofs.Common.{◌∙◌, arith}
use Rattle.tree_join.proofs.Steps.{order_few}
use Rattle.tree_join.proofs.Walks.{own_put}
use Rattle.tree_join.proofs.walk.put_own.Goals as goal

pub overflow_cast-number : goal.overflow_cast-number
overflow_cast-number c = (let few = order_few _ _ _ c.requires.walking in let is = c.len-number.ensures ∙ c.args.order.now.ok.0 in omega arith)

pub returns-clause-walking : goal.returns-clause-walking
returns-clause-walking c =
    own_put _ _ _ _ _ _ _ _ _ c.requires.walking c.requires.at c.requires.next c.requires.leads (c.len-number.ensures ∙ c.args.order.now.ok.0) c.in_ok-advance.ensures c.in_ok-push.ensures.items
