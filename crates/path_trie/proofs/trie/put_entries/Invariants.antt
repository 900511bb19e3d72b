use Rattle.std.proofs.Common.{◌≡◌, ◌+◌, ◌≤◌, ◌++◌, length, take, fold, vec_capacity, All}
use Rattle.indexmap.specs.IndexMap.{spare}
use Rattle.tree_types.specs.Paths.{Path}
use Rattle.tree_types.specs.PathsOf.{tree_paths}
use Rattle.path_trie.specs.Trie.{IsIndex, with_node, all_prefixes, entry_scopes}
use Rattle.path_trie.specs.private.Linked.{IsKept, Linked, entries_at}
use Rattle.path_trie.proofs.trie.put_entries.Given as goal

abbrev pub invariant-loop-entry : goal.invariant-loop-entry
invariant-loop-entry l = record {
  linked : Linked l.table.nodes.items l.table.branches.entries;
  indices : All (λ e. IsIndex e.node (length l.table.nodes.items)) l.ends.items;
  entries : entries_at l.table.nodes.items l.ends.items ≡ entries_at l.initial.table.nodes.items l.initial.ends.items ++ take l.entry-index l.entries;
  paths : tree_paths l.table.nodes.items ≡ fold with_node (tree_paths l.initial.table.nodes.items) (all_prefixes (take l.entry-index l.entries));
  len : length l.table.nodes.items ≤ length l.initial.table.nodes.items + entry_scopes (take l.entry-index l.entries);
  capacity : vec_capacity l.initial.table.nodes ≤ vec_capacity l.table.nodes;
  branch_room : spare l.initial.table.branches ≤ spare l.table.branches + l.entry-index;
  end_len : length l.ends.items ≡ length l.initial.ends.items + l.entry-index;
  kept : (path : Path) × IsKept l.table.nodes.items l.table.kept.items path;
  kept_room : vec_capacity l.initial.table.kept ≤ vec_capacity l.table.kept;
  end_room : vec_capacity l.initial.ends ≤ vec_capacity l.ends;
}
