use Rattle.std.proofs.Common.{◌≡◌, ◌+◌, ◌≤◌, length, take, fold, vec_capacity}
use Rattle.indexmap.specs.IndexMap.{spare}
use Rattle.tree_types.specs.Paths.{prefixes}
use Rattle.tree_types.specs.PathsOf.{tree_paths}
use Rattle.path_trie.specs.Trie.{IsIndex, path_at, with_node}
use Rattle.path_trie.specs.private.Linked.{Linked, Extends, IsKept, last_one}
use Rattle.path_trie.proofs.table.NodeTable.put_rest.Given as goal

abbrev pub invariant-loop-depth : goal.invariant-loop-depth
invariant-loop-depth l = record {
  linked : Linked l.self.nodes.items l.self.branches.entries;
  paths : tree_paths l.self.nodes.items ≡ fold with_node (tree_paths l.initial.self.nodes.items) (take l.depth (prefixes l.path));
  path : path_at (tree_paths l.self.nodes.items) l.node ≡ take l.depth l.path;
  index : IsIndex l.node (length l.self.nodes.items);
  extends : Extends (tree_paths l.initial.self.nodes.items) (tree_paths l.self.nodes.items);
  len : length l.self.nodes.items ≤ length l.initial.self.nodes.items + l.depth;
  capacity : vec_capacity l.initial.self.nodes ≤ vec_capacity l.self.nodes;
  branch_room : spare l.initial.self.branches ≤ spare l.self.branches + last_one l.self.nodes.items l.node;
  kept : IsKept l.self.nodes.items l.self.kept.items l.path;
  kept_len : length l.self.kept.items ≡ l.depth;
  kept_capacity : vec_capacity l.initial.self.kept ≤ vec_capacity l.self.kept;
}
