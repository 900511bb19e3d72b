use Rattle.std.proofs.Common.{◌==◌, arith}
use Rattle.scope_types.specs.Columns.{place_of_column}
use Rattle.run_report.proofs.Columns.{few_step, where_step}
use Rattle.run_report.proofs.counts.samples_at.Goals as goal

pub loop-column-preserved : goal.loop-column-preserved
loop-column-preserved c =
    let test = c.loop-column-test.true in
    let columns = c.columns-column-end.ensures.columns in
    (where_step (λ column. place_of_column c.args.events column == c.args.place) c.args.ccts.now _ _ _ c.loop-column.invariant.0 c.if_of_event-samples.ensures.one, few_step c.args.ccts.now _ _ _ (omega (arith, test, columns)) c.loop-column.invariant.1 c.if_of_event-samples.ensures.few)
