use Rattle.std.proofs.Common.{refl}
use Rattle.stripe_table.specs.Views.{after_draw}
use Rattle.stripe_table.proofs.Tested.{keeps_claim}
use Rattle.stripe_table.proofs.tests.claim_next.Goals as goal

pub returns-clause-hold : goal.returns-clause-hold
returns-clause-hold c = let d = c.claim.ensures.drawn in (keeps_claim c.args.pass.now.view (after_draw d.0 c.args.pass.now.view) c.claim.new.pass.view d.1 (refl, refl, refl) refl).1

pub returns-clause-same : goal.returns-clause-same
returns-clause-same c = let d = c.claim.ensures.drawn in (keeps_claim c.args.pass.now.view (after_draw d.0 c.args.pass.now.view) c.claim.new.pass.view d.1 (refl, refl, refl) refl).0
