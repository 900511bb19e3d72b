use Rattle.stripe_table.proofs.Tested.{keeps_took, took_busy, took_held}
use Rattle.stripe_table.proofs.tests.take_sixth.Goals as goal

pub returns-clause-held : goal.returns-clause-held
returns-clause-held c = λ is. took_held 6 c.args.pass.now.view c.take.new.pass.view c.take.result c.take.ensures.took is

pub returns-clause-busy : goal.returns-clause-busy
returns-clause-busy c = took_busy 6 c.args.pass.now.view c.take.new.pass.view c.take.result c.take.ensures.took c.requires.free

pub returns-clause-same : goal.returns-clause-same
returns-clause-same c = keeps_took 6 c.args.pass.now.view c.take.new.pass.view c.take.result c.take.ensures.took
