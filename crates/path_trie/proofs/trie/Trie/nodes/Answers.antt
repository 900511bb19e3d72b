use Rattle.path_trie.proofs.Seen.{nodes_seen}
use Rattle.path_trie.proofs.trie.Trie.nodes.Goals as goal

pub returns-clause-nodes : goal.returns-clause-nodes
returns-clause-nodes c = nodes_seen _ _ _ _ _ c.self.invariant.0 c.self.view_is c.as_slice.ensures.value
