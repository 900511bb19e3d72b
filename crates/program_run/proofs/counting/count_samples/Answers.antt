use Rattle.std.proofs.Common.{List, length, ap, ◌∙◌}
use Rattle.std.proofs.lemmas.Result.{err_from_is_err_and}
use Rattle.cfi_unwind.specs.Path.{path_by as unwound_by}
use Rattle.scope_types.specs.declared.frame.Counted.{Counted}
use Rattle.program_run.specs.Samples.{run_columns}
use Rattle.program_run.specs.Collecting.{raws_to_come}
use Rattle.program_run.proofs.Counted.{counted_run, own_samples, refused_count}
use Rattle.program_run.proofs.RunColumns.{few_columns}
use Rattle.program_run.proofs.counting.count_samples.Goals as goal

pub collect-requires-clause-few : goal.collect-requires-clause-few
collect-requires-clause-few c = few_columns c.args.events.now c.args.harts c.requires.events c.requires.few_harts

pub collect-requires-clause-own : goal.collect-requires-clause-own
collect-requires-clause-own c = own_samples (unwound_by c.args.unwinder.now) c.args.events.now c.args.harts c.args.samples c.requires.start c.samples_are_of_instructions.ensures c.requires.instants

pub returns-in_err-ccts : goal.returns-in_err-ccts
returns-in_err-ccts c =
    let p = err_from_is_err_and c.from_residual.result c.from_residual.ensures.1 in
    rw (p.1, p.2) (refused_count (unwound_by c.args.unwinder.now) c.args.events.now c.args.harts c.args.samples c.requires.start _ c.in_err-ccts.ensures)

pub returns : goal.returns
returns c =
    counted_run (unwound_by c.args.unwinder.now) c.args.events.now c.args.harts c.args.samples c.requires.start c.in_ok-ccts.ccts c.collect.new.samples c.in_ok-ccts.ensures
    (ap (λ (ts : List (List Counted)). length ts) c.in_ok-ccts.ensures.counts ∙ c.samples_are_counted.ensures.columns (run_columns c.args.events.now c.args.harts) (raws_to_come (unwound_by c.args.unwinder.now) c.args.samples))
    c.requires.some_harts c.requires.few_harts c.requires.harts
