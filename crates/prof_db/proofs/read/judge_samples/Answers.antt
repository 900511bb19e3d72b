use Rattle.std.proofs.Common.{◌∙◌, sym}
use Rattle.scope_types.specs.Columns.{period_of_column}
use Rattle.prof_db.specs.ValueRules.{entries_kept}
use Rattle.prof_db.proofs.Sampled.{head_periods}
use Rattle.prof_db.proofs.read.judge_samples.Goals as goal

pub judge_entries-requires : goal.judge_entries-requires
judge_entries-requires c = head_periods c.args.layout.now c.args.periods.now c.requires.head c.requires.periods

pub returns : goal.returns
returns c =
    (λ i. entries_kept (period_of_column (sym c.requires.periods i)) (sym c.columns_in-columns.ensures i) c.args.nodes.now (sym c.items.ensures i)) ∙ c.judge_entries.ensures
