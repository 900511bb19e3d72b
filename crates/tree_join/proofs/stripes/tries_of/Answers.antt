use Rattle.std.proofs.Common.{arith}
use Rattle.tree_join.proofs.Parts.{next_trie, all_tries}
use Rattle.tree_join.proofs.stripes.tries_of.Goals as goal

pub loop-stripe-preserved : goal.loop-stripe-preserved
loop-stripe-preserved c = (
  next_trie c.args.set.now.stripes c.loop-stripe.stripe _ _ c.trie.result c.loop-stripe.invariant.0 c.in_ok-push.ensures.items c.trie.ensures.trie,
  λ some. (c.trie.ensures.fits, c.trie.ensures.limited),
)

pub returns-clause-tries : goal.returns-clause-tries
returns-clause-tries c = all_tries c.args.set.now c.loop-stripe.stripe _ c.loop-stripe.invariant.0 (let end = c.loop-stripe-test.false in let most = c.loop-stripe.auto.stripe-end in omega arith)
