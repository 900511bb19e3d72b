use Rattle.std.proofs.Common.{◌∙◌, sym, arith}
use Rattle.live_merge.specs.private.Adding.{first_next}
use Rattle.live_merge.proofs.Adding.{order_few, put_at}
use Rattle.live_merge.proofs.walk.put.Goals as goal

pub overflow_cast-number : goal.overflow_cast-number
overflow_cast-number c = (let few = order_few _ _ _ _ _ c.requires.walking in let is = c.len-number.ensures ∙ c.args.walked.now.nodes.ok.0 in omega arith)

pub returns-clause-walking : goal.returns-clause-walking
returns-clause-walking c =
    put_at _ _ _ _ _ _ _ _ _ _ c.requires.walking ((λ i. first_next (sym c.requires.next.left i) (sym c.requires.next.right i)) ∙ c.requires.first) (c.len-number.ensures ∙ c.args.walked.now.nodes.ok.0) c.in_ok-pass.ensures.passes c.in_ok-pass-2.ensures.passes c.in_ok-push.ensures.items
