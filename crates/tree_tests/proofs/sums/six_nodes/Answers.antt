use Rattle.std.proofs.Common.{List, ◌++◌, ap, ◌∙◌}
use Rattle.tree_types.specs.declared.content.Node.{Node}
use Rattle.tree_types.specs.declared.counted_tree.NodeCount.{NodeCount}
use Rattle.tree_tests.proofs.SixNodes.{six, three, is_tree}
use Rattle.tree_tests.proofs.sums.six_nodes.Goals as goal

pub of-requires : goal.of-requires
of-requires c =
    is_tree _ _ (c.in_ok-extend_from_slice.ensures.items ∙ ap (λ (ns : List Node). ns ++ six) c.new-nodes.ensures.items)
    (c.in_ok-extend_from_slice-2.ensures.items ∙ ap (λ (cs : List NodeCount). cs ++ three) c.new-counts.ensures.items)
