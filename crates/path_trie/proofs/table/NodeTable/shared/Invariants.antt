use Rattle.std.proofs.Common.{◌≡◌, take, fold}
use Rattle.tree_types.specs.Paths.{prefixes}
use Rattle.tree_types.specs.PathsOf.{tree_paths}
use Rattle.path_trie.specs.Trie.{with_node}
use Rattle.path_trie.specs.private.Linked.{IsKept}
use Rattle.path_trie.proofs.table.NodeTable.shared.Given as goal

abbrev pub invariant-loop-depth : goal.invariant-loop-depth
invariant-loop-depth l = record {
  kept : IsKept l.self.nodes.items (take l.depth l.self.kept.items) l.path;
  paths : tree_paths l.self.nodes.items ≡ fold with_node (tree_paths l.self.nodes.items) (take l.depth (prefixes l.path));
}
