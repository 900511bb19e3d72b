use Rattle.std.proofs.Common.{◌<◌, ℕ, sym, subst}
use Rattle.stripe_table.specs.Views.{owes}
use Rattle.stripe_table.proofs.Tested.{keeps_offered, busy_owed}
use Rattle.stripe_table.proofs.tests.offer_sixth.Goals as goal

pub offer-requires-clause-owed : goal.offer-requires-clause-owed
offer-requires-clause-owed c = subst (λ (s : ℕ). 0 < owes c.args.piece.now.chunk s c.args.pass.now.view) (sym c.requires.piece.1) c.requires.owed

pub returns-clause-owed : goal.returns-clause-owed
returns-clause-owed c = busy_owed c.args.piece.now.stripe c.args.piece.now.chunk c.args.piece.now.chunk 6 c.args.pass.now.view c.offer.new.pass.view c.offer.result c.offer.ensures.offered c.requires.owed

pub returns-clause-same : goal.returns-clause-same
returns-clause-same c = keeps_offered c.args.piece.now.stripe c.args.piece.now.chunk c.args.pass.now.view c.offer.new.pass.view c.offer.result c.offer.ensures.offered
