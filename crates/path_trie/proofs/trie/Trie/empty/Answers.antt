use Rattle.path_trie.proofs.KeptNodes.{none_kept}
use Rattle.path_trie.proofs.Merging.{none_fits}
use Rattle.path_trie.proofs.trie.Trie.empty.Goals as goal

pub invariant_of-result : goal.invariant_of-result
invariant_of-result c = (none_fits _ _ _ c.new.ensures.nodes c.new.ensures.branches c.new-2.ensures.items, (_, none_kept _ _ c.new.ensures.kept))
