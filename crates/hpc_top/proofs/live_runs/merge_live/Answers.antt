use Rattle.cfi_unwind.specs.Path.{path_by as unwound_by}
use Rattle.scope_find.specs.Found.{found_at}
use Rattle.program_run.proofs.Counted.{own_samples}
use Rattle.program_run.proofs.RunColumns.{few_columns}
use Rattle.hpc_top.proofs.LiveRuns.{LiveLaws, runs_live}
use Rattle.hpc_top.proofs.live_runs.merge_live.Goals as goal

pub run_live-answer-requires-clause-few : goal.run_live-answer-requires-clause-few
run_live-answer-requires-clause-few g c κs within = few_columns c.args.events.now c.args.harts c.requires.events c.requires.few_harts

pub run_live-answer-requires-clause-own : goal.run_live-answer-requires-clause-own
run_live-answer-requires-clause-own g c κs within = own_samples (unwound_by c.args.unwinder.now) c.args.events.now c.args.harts c.args.samples c.requires.start c.samples_are_of_instructions.ensures c.requires.instants

pub returns : goal.returns
returns g c =
    let laws : LiveLaws = record {
      columns = c.samples_are_counted.ensures.columns;
      alike = c.samples_are_counted.ensures.alike;
      many = c.measurements_count_samples.ensures.many;
      long = c.trees_hold_paths.ensures.long;
      nodes_are = c.trees_hold_the_samples.ensures.nodes;
      paths = c.trees_hold_the_samples.ensures.paths;
    } in
    runs_live (unwound_by c.args.unwinder.now) c.args.events.now c.args.harts c.args.samples c.requires.start c.args.expander.now laws (c.call_paths_have_roots.ensures (found_at c.args.expander.now))
    (own_samples (unwound_by c.args.unwinder.now) c.args.events.now c.args.harts c.args.samples c.requires.start c.samples_are_of_instructions.ensures c.requires.instants)
    c.requires.some_harts c.requires.few_harts c.requires.harts c.run_live-answer.result c.run_live-answer.new.samples c.live_of.result c.run_live-answer.ensures.answer c.live_of.ensures.answer c.live_of.ensures.tree
