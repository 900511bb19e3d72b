use Rattle.stripe_table.proofs.Sums.{times_take}
use Rattle.stripe_table.proofs.stripe.index_of.Goals as goal

pub loop-i-preserved : goal.loop-i-preserved
loop-i-preserved c = times_take c.args.name c.loop-i.i c.args.names.now c.loop-i-test.true c.if-names-i.false c.loop-i.invariant
