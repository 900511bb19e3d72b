use Rattle.std.proofs.Common.{ap, ◌∙◌, Vec, Global}
use Rattle.path_trie.proofs.Places.{pushed}
use Rattle.tree_types.specs.declared.counted_tree.NodeCount.{NodeCount}
use Rattle.tree_join.proofs.Sums.{same_at, new_at}
use Rattle.tree_join.proofs.counts.add_up.Goals as goal
use Rattle.tree_join.proofs.counts.add_up.Goals.{then-is_same_pair, else-is_same_pair+in_ok-push}

pub loop-count-preserved : goal.loop-count-preserved
loop-count-preserved c =
    let none : NodeCount = record { node = 0; column = 0; count = 0 } in
    elim c.if-is_same_pair.branch [
      | then-is_same_pair w ↦
          same_at _ _ _ _ _ _ _ none c.loop-count.count-index c.in-Some.ensures.cases.0 c.loop-count.invariant c.loop-count-test.true c.requires.sorted _ c.is_same_pair.ensures
          w.if-is_same_pair.true (ap (λ (v : Vec NodeCount Global). v.items) w.sums-is) w.last-is
      | else-is_same_pair+in_ok-push w ↦
          new_at _ _ _ _ _ _ _ none c.loop-count.count-index c.in-Some.ensures.cases.0 c.loop-count.invariant c.loop-count-test.true c.requires.sorted _ c.is_same_pair.ensures
          w.if-is_same_pair.false (ap (λ (v : Vec NodeCount Global). v.items) w.sums-is ∙ pushed _ _ _ _ _ w.push.ensures.items w.in_ok-push.was) w.last-is
    ]
