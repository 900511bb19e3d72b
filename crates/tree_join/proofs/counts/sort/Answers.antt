use Rattle.std.proofs.Common.{rules, ℕ}
use Rattle.std.proofs.lemmas.List.Sorted.{answers_always}
use Rattle.tree_types.specs.declared.counted_tree.NodeCount.{NodeCount}
use Rattle.tree_join.proofs.Sums.{sorted_pairs}
use Rattle.tree_join.proofs.counts.sort.Goals as goal

pub returns-clause-sorted : goal.returns-clause-sorted
returns-clause-sorted c =
    let key : NodeCount → ℕ × ℕ = λ x. (x.node, x.column) in
    sorted_pairs c.sort_by_key.new.self.items (c.in_ok-sort_by_key.ensures.sorted key (answers_always _ _ _ (λ f a r g called. search rules)))
