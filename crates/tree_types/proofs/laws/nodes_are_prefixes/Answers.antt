use Rattle.tree_types.proofs.NodeLaws.{prefix_is_node, only_nodes}
use Rattle.tree_types.proofs.laws.nodes_are_prefixes.Goals as goal

pub returns-clause-each : goal.returns-clause-each
returns-clause-each c = prefix_is_node

pub returns-clause-only : goal.returns-clause-only
returns-clause-only c = only_nodes
