use Rattle.std.proofs.Common.{◌≡◌, ap, ◌∙◌, ℕ, ◌<◌, length}
use Rattle.std.proofs.lemmas.Result.{IfOk-weaker}
use Rattle.scope_types.specs.Columns.{period_of_column}
use Rattle.tree_types.specs.NodeValues.{NodeValues, value_at, values_of}
use Rattle.tree_types.specs.Tree.{node_path, paths_in}
use Rattle.tree_types.specs.Values.{value}
use Rattle.tree_types.specs.declared.content.Kind.{Kind}
use Rattle.tree_types.proofs.WholeValues.{value_is}
use Rattle.metric_sums.specs.private.Ancestors.{period_in}
use Rattle.metric_sums.proofs.Periods.{as_many, values_priced}
use Rattle.metric_sums.proofs.walk.sums.Goals as goal

pub walked-requires-clause-periods : goal.walked-requires-clause-periods
walked-requires-clause-periods c = ap length c.as_slice.ensures.value ∙ as_many c.args.periods.now c.in_ok-all.all.items c.columns.result c.args.tree.now.columns c.in_ok-all.ensures c.columns.ensures.columns

pub returns-clause-values : goal.returns-clause-values
returns-clause-values c =
    IfOk-weaker c.walked.result (λ (v : NodeValues). v ≡ values_of (period_in c.as_slice.result.now) c.args.tree.now) (λ v. v ≡ values_of (period_of_column c.args.periods.now) c.args.tree.now)
    (λ v e. e ∙ values_priced c.args.periods.now c.as_slice.result.now c.columns.result c.args.tree.now c.columns.ensures.columns (c.as_slice.ensures.value ∙ c.in_ok-all.ensures)) c.walked.ensures

pub returns-clause-each : goal.returns-clause-each
returns-clause-each c =
    IfOk-weaker c.walked.result (λ (v : NodeValues). v ≡ values_of (period_of_column c.args.periods.now) c.args.tree.now)
    (λ v. (node column : ℕ) (kind : Kind) → node < length c.args.tree.now.nodes → column < c.args.tree.now.columns
    → value_at v.entries node column kind ≡ value (period_of_column c.args.periods.now column) (paths_in c.args.tree.now) column (node_path c.args.tree.now.nodes node) kind)
    (λ v e node column kind ltn lth. ap (λ (v : NodeValues). value_at v.entries node column kind) e ∙ value_is (period_of_column c.args.periods.now) c.args.tree.now node column kind ltn lth) (returns-clause-values c)
