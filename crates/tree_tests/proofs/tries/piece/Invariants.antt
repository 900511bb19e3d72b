use Rattle.std.proofs.Common.{◌*◌, ◌≤◌, ◌<◌, All}
use Rattle.path_trie.specs.Trie.{samples_of, entry_scopes}
use Rattle.tree_tests.proofs.tries.piece.Given as goal

abbrev pub invariant-loop-row : goal.invariant-loop-row
invariant-loop-row l = record {
  samples : samples_of l.entries.items ≤ 100 * l.row-index;
  scopes : entry_scopes l.entries.items ≤ 16 * l.row-index;
  columns : All (λ e. 0 < e.count → e.column < 3) l.entries.items;
}
