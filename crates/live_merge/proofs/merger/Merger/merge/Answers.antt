use Rattle.live_merge.proofs.Merging.{joinable, merged_ok}
use Rattle.live_merge.proofs.merger.Merger.merge.Goals as goal

pub join_stripes-requires : goal.join_stripes-requires
join_stripes-requires g c = record {
  held = joinable c.args.plan.now (g.E.Expand.call_path c.args.expand.now) c.in_ok-crew.crew c.in_ok-crew.ensures.plan c.columns.result
      (c.plans_can_be_merged.ensures c.args.plan.now (g.E.Expand.call_path c.args.expand.now) c.columns.result c.columns.ensures.counted c.columns.ensures.below c.requires.some)
      c.stripes_hold_their_pieces.ensures.joinable;
}

pub returns : goal.returns
returns g c =
    merged_ok c.args.plan.now (g.E.Expand.call_path c.args.expand.now) c.in_ok-crew.crew c.in_ok-crew.ensures.plan c.in_ok-crew.ensures.whole c.columns.result c.join_stripes.result c.columns.ensures.columns
    c.join_stripes.ensures.columns c.join_stripes.ensures.nodes c.join_stripes.ensures.few c.join_stripes.ensures.paths
