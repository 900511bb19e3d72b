use Rattle.std.proofs.Common.{◌∙◌, arith}
use Rattle.tree_join.proofs.Ends.{all_ready}
use Rattle.tree_join.proofs.Steps.{order_few}
use Rattle.tree_join.proofs.Walks.{first_put}
use Rattle.tree_join.proofs.walk.put_first.Goals as goal

pub overflow_cast-len : goal.overflow_cast-len
overflow_cast-len c = (let few = order_few _ _ _ c.requires.walking in let is = c.len.ensures ∙ c.args.order.now.ok.0 in omega arith)

pub advance_each-requires : goal.advance_each-requires
advance_each-requires c = all_ready _ _ _ c.requires.walking

pub returns-clause-walking : goal.returns-clause-walking
returns-clause-walking c = first_put _ _ _ _ _ _ _ c.requires.walking c.requires.next c.requires.first (c.len.ensures ∙ c.args.order.now.ok.0) c.in_ok-advance_each.ensures c.in_ok-push.ensures.items
