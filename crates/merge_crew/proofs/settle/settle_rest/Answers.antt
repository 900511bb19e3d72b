use Rattle.std.proofs.Common.{subst}
use Rattle.stripe_table.specs.Ends.{AllFit}
use Rattle.stripe_table.specs.declared.view.PassView.{PassView}
use Rattle.merge_crew.proofs.Settling.{rest_counted}
use Rattle.merge_crew.proofs.settle.settle_rest.Goals as goal

pub returns-clause-count : goal.returns-clause-count
returns-clause-count g c = let e = c.settle_all.ensures in
    rest_counted c.args.set.now.view.plan c.args.set.now.stripes c.settle_all.new.set.stripes c.settle_all.result (subst (λ (v : PassView). AllFit v.plan c.settle_all.new.set.stripes) e.view e.fits) e.named e.count
