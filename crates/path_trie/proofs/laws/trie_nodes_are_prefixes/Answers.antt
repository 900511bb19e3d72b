use Rattle.path_trie.proofs.Nodes.{each_prefix}
use Rattle.path_trie.proofs.laws.trie_nodes_are_prefixes.Goals as goal

pub returns-clause-each : goal.returns-clause-each
returns-clause-each c es e n there prefix = each_prefix es e n there prefix
