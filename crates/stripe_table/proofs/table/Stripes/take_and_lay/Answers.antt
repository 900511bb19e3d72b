use Rattle.std.proofs.Common.{◌/◌, ap}
use Rattle.stripe_table.specs.declared.view.PassView.{PassView}
use Rattle.stripe_table.proofs.table.Stripes.take_and_lay.Goals as goal

pub lay-requires-clause-held : goal.lay-requires-clause-held
lay-requires-clause-held c = let t = c.in-Held.ensures.took in (t.0 / 2, ap (λ (v : PassView). v.hold) t.2)
