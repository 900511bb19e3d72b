use Rattle.std.proofs.Common.{ℕ, List, length, ap, ◌∙◌}
use Rattle.std.proofs.lemmas.Result.{err_from_is_err_and}
use Rattle.run_profile.specs.Merging.{merging}
use Rattle.program_run.proofs.Counted.{below_own, counts_own}
use Rattle.hpc_top.proofs.CountedRuns.{columns_here, runs_here}
use Rattle.hpc_top.proofs.Products.{profiled_is, refused_merge}
use Rattle.hpc_top.proofs.profiling.merge_run.Goals as goal

pub merge_samples-requires-clause-runs : goal.merge_samples-requires-clause-runs
merge_samples-requires-clause-runs g c κs within = runs_here c.args.merge.now.events.now c.requires.counted.0 c.args.run c.requires.counted.1 c.args.merge.now.runs.now c.requires.runs

pub merge_samples-requires-clause-columns : goal.merge_samples-requires-clause-columns
merge_samples-requires-clause-columns g c κs within = columns_here c.args.merge.now.events.now c.requires.counted.0 c.args.run c.requires.counted.1 c.args.merge.now.runs.now c.requires.runs

pub returns-in_err-merged : goal.returns-in_err-merged
returns-in_err-merged g c m count =
    let p = err_from_is_err_and c.from_residual-in_err-merged.result c.from_residual-in_err-merged.ensures.1 in
    rw (p.1, p.2) (refused_merge c.args.finder.now c.args.merge.now.events.now m c.args.run count c.args.merge.now.runs.now c.requires.runs _ (c.in_err-merged.ensures.merged m.samples (counts_own c.args.merge.now.events.now m c.args.run count) (below_own c.args.merge.now.events.now m c.args.run count)))

pub returns : goal.returns
returns g c m count =
    profiled_is c.args.finder.now c.args.merge.now.events.now m c.args.run count c.args.merge.now.runs.now c.requires.runs (merging (g.C.Crews.gives c.args.merge.now.crews.now) (g.C.Crews.whole c.args.merge.now.crews.now) c.args.merge.now.workers) c.in_ok-summary.summary c.in_ok-merged.merged (c.in_ok-summary.ensures m count)
    (c.in_ok-merged.ensures.merged m.samples (counts_own c.args.merge.now.events.now m c.args.run count) (below_own c.args.merge.now.events.now m c.args.run count)) c.in_ok-merged.ensures.profile (ap (λ (l : List ℕ). length l) (c.in_ok-merged.ensures.runs ∙ c.requires.runs)) c.in_ok-merged.ensures.events
