use Rattle.std.proofs.Common.{rules, Ok, Err, sym, ℕ}
use Rattle.std.proofs.lemmas.List.Sorted.{answers_always}
use Rattle.tree_types.specs.declared.content.Kind.TheVariants.{Exclusive}
use Rattle.tree_types.specs.declared.node_values.NodeValue.{NodeValue}
use Rattle.tree_types.specs.NodeValues.{kind_rank}
use Rattle.tree_types.proofs.Places.{found_value}
use Rattle.tree_types.proofs.node_values.value_among.Goals as goal

pub returns-in-Ok : goal.returns-in-Ok
returns-in-Ok c =
    let key : NodeValue → ℕ × ℕ × ℕ = λ x. (x.node, x.column, kind_rank x.kind) in
    let by_place = c.in-Ok.ensures.position key (answers_always _ _ _ (λ f a r g called. search rules)) in
    let found = found_value c.args.entries.now c.args.node c.args.column c.args.kind (Ok c.in-Ok.index) c.requires c.in-Ok.ensures.bound (rw c.rank.ensures at by_place) in
    sym (found _)

pub returns-in-Err : goal.returns-in-Err
returns-in-Err c =
    let key : NodeValue → ℕ × ℕ × ℕ = λ x. (x.node, x.column, kind_rank x.kind) in
    let by_place = c.in-Err.ensures.position key (answers_always _ _ _ (λ f a r g called. search rules)) in
    let found = found_value c.args.entries.now c.args.node c.args.column c.args.kind (Err c.in-Err.field-0) c.requires c.in-Err.ensures.bound (rw c.rank.ensures at by_place) in
    sym (found (record { node = 0; column = 0; kind = Exclusive; value = 0 }))
