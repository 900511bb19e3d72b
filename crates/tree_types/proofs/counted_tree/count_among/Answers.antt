use Rattle.std.proofs.Common.{rules, Ok, Err, sym, ◌∙◌, ℕ}
use Rattle.std.proofs.lemmas.List.Sorted.{answers_always}
use Rattle.tree_types.specs.declared.counted_tree.NodeCount.{NodeCount}
use Rattle.tree_types.proofs.Places.{found_count}
use Rattle.tree_types.proofs.counted_tree.count_among.Goals as goal

pub returns-in-Ok : goal.returns-in-Ok
returns-in-Ok c =
    let key : NodeCount → ℕ × ℕ = λ x. (x.node, x.column) in
    let by_place = c.in-Ok.ensures.position key (answers_always _ _ _ (λ f a r g called. search rules)) in
    let found = found_count c.args.counts.now c.args.node c.args.column (Ok c.in-Ok.index) c.requires c.in-Ok.ensures.bound by_place in
    c.from.ensures ∙ sym (found _)

pub returns-in-Err : goal.returns-in-Err
returns-in-Err c =
    let key : NodeCount → ℕ × ℕ = λ x. (x.node, x.column) in
    let by_place = c.in-Err.ensures.position key (answers_always _ _ _ (λ f a r g called. search rules)) in
    let found = found_count c.args.counts.now c.args.node c.args.column (Err c.in-Err.field-0) c.requires c.in-Err.ensures.bound by_place in
    sym (found (record { node = 0; column = 0; count = 0 }))
