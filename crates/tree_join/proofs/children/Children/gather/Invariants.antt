use Rattle.std.proofs.Common.{◌≡◌, ◌++◌, length}
use Rattle.path_trie.specs.Trie.{IsIndex}
use Rattle.tree_join.specs.private.Children.{siblings_from}
use Rattle.tree_join.proofs.children.Children.gather.Given as goal

abbrev pub invariant-loop-at : goal.invariant-loop-at
invariant-loop-at l = record {
  index : IsIndex l.at (length l.self.nodes.now);
  gathered : l.group.items ++ siblings_from l.self.nodes.now l.at ≡ siblings_from l.self.nodes.now l.last;
}

abbrev pub decreases-loop-at : goal.decreases-loop-at
decreases-loop-at l = length (siblings_from l.self.nodes.now l.at)
