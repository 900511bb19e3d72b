use Rattle.std.proofs.Common.{[], ◌∷◌, refl, sym, ◌∙◌}
use Rattle.run_profile.specs.Attribution.{call_paths_of}
use Rattle.hpc_top.specs.private.LiveRuns.{samples_attributed}
use Rattle.hpc_top.proofs.CountedRuns.{runs_here}
use Rattle.hpc_top.proofs.LiveRuns.{products_are, tree_here}
use Rattle.hpc_top.proofs.live_runs.made_live.Goals as goal

pub content_of_tree-requires-clause-runs : goal.content_of_tree-requires-clause-runs
content_of_tree-requires-clause-runs g c κs within = runs_here c.args.events.now c.requires.live.0 c.args.live.run c.requires.live.1.count (c.args.live.run.harts ∷ []) refl

pub content_of_tree-requires-clause-paths : goal.content_of_tree-requires-clause-paths
content_of_tree-requires-clause-paths g c κs within =
    (call_paths_of (samples_attributed c.args.expander.now c.requires.live.0), tree_here c.args.expander.now c.args.events.now c.requires.live.0 c.args.live.run c.requires.live.1.count (c.args.live.run.harts ∷ []) refl c.args.live.tree c.requires.live.1.tree_of)

pub report_of-requires-clause-summary : goal.report_of-requires-clause-summary
report_of-requires-clause-summary g c κs within =
    (c.requires.live.0, c.in_ok-summary.ensures c.requires.live.0 c.requires.live.1.count, c.in_ok-content.ensures.events ∙ sym c.requires.live.1.count.same)

pub returns : goal.returns
returns g c m is =
    let of = tree_here c.args.expander.now c.args.events.now m c.args.live.run is.count (c.args.live.run.harts ∷ []) refl c.args.live.tree is.tree_of in
    let paths = call_paths_of (samples_attributed c.args.expander.now m) in
    products_are c.args.expander.now c.args.events.now m c.args.live.run is.count (c.args.live.run.harts ∷ []) refl c.in_ok-content.content c.report_of.result (c.in_ok-content.ensures.content paths of) (c.in_ok-content.ensures.tables paths of) (c.report_of.ensures m (c.in_ok-summary.ensures m is.count))
