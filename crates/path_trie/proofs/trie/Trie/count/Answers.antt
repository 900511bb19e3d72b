use Rattle.path_trie.proofs.Seen.{counts_seen}
use Rattle.path_trie.proofs.trie.Trie.count.Goals as goal

pub returns : goal.returns
returns c = counts_seen _ _ _ _ _ _ _ _ c.self.invariant.0 c.self.view_is c.requires c.as_slice.ensures.value c.count_ends.ensures
