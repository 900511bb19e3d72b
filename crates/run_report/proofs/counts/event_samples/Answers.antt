use Rattle.std.proofs.Common.{◌==◌, ◌∙◌}
use Rattle.scope_types.specs.Columns.{place_of_column}
use Rattle.run_report.proofs.Columns.{where_counts}
use Rattle.run_report.proofs.counts.event_samples.Goals as goal

pub returns-clause-all : goal.returns-clause-all
returns-clause-all c samples are all =
    c.samples_at.ensures.all ∙ where_counts c.samples_are_counted.ensures.each (λ column. place_of_column c.args.events column == c.args.place) c.args.ccts.now samples are all
