use Rattle.std.proofs.Common.{sym, ◌∙◌}
use Rattle.path_trie.proofs.Places.{branch_given, node_apart}
use Rattle.path_trie.proofs.table.NodeTable.child.Goals as goal

pub returns-else-eq : goal.returns-else-eq
returns-else-eq c =
    branch_given c.args.self.now.nodes.items c.args.self.now.branches.entries c.args.parent c.args.scope c.copied.result c.requires.linked
    (sym (c.copied.ensures ∙ c.get-else-eq.ensures.value))
    (node_apart c.args.self.now.nodes.items _ c.in_ok-node.node.now _ c.eq.result c.deref.result.now c.deref.ensures.value c.in_ok-node.ensures.lookup.3.0 c.in_ok-node.ensures.lookup.1 c.eq.ensures c.if-eq.false)
