use Rattle.std.proofs.Common.{◌≡◌, ◌-◌, ◌^◌, length, ◌∙◌, arith}
use Rattle.std.specs.Prelude.{min}
use Rattle.scope_types.specs.Columns.{columns_of}
use Rattle.prof_db.specs.HeadRules.{layout_columns}
use Rattle.prof_db.proofs.Sampled.{head_columns}
use Rattle.prof_db.proofs.Saturated.{uncapped}
use Rattle.prof_db.proofs.read.columns_in.Goals as goal

pub overflow_cast-result : goal.overflow_cast-result
overflow_cast-result c =
    let few = head_columns c.args.layout.now c.requires in
    let same : c.columns_of.result ≡ layout_columns c.args.layout.now =
    uncapped _ _ (c.columns_of.ensures ∙ (λ i. min (columns_of (length (c.items.ensures i)) (c.items-2.ensures i)) (2 ^ 64 - 1))) few in
    omega (arith, same, few)

pub returns : goal.returns
returns c =
    uncapped _ _ (c.columns_of.ensures ∙ (λ i. min (columns_of (length (c.items.ensures i)) (c.items-2.ensures i)) (2 ^ 64 - 1)))
    (head_columns c.args.layout.now c.requires)
