use Rattle.std.proofs.Common.{sym, subst}
use Rattle.thread_cct.specs.Plan.{IsMergeable}
use Rattle.stripe_table.specs.Limits.{Chunks}
use Rattle.tree_tests.proofs.stripes.joined.Goals as goal

pub join_stripes-requires : goal.join_stripes-requires
join_stripes-requires g c = record {
  held = c.stripes_hold_their_pieces.ensures.joinable c.args.set.now c.columns.result c.names-names.ensures.fits
      (subst (λ (chunks : Chunks). IsMergeable chunks c.columns.result) (sym c.requires.plan)
      (c.plans_can_be_merged.ensures c.args.plan.now (g.E.Expand.call_path c.args.expand.now) c.columns.result c.columns.ensures.counted c.columns.ensures.below c.requires.roots));
}
