use Rattle.path_trie.proofs.Seen.{node_seen}
use Rattle.path_trie.proofs.trie.Trie.node.Goals as goal

pub returns-clause-node : goal.returns-clause-node
returns-clause-node c = node_seen _ _ _ _ _ _ c.self.invariant.0 c.self.view_is c.requires c.index.ensures
