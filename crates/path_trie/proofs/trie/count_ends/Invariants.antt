use Rattle.std.proofs.Common.{◌≡◌, sum_by, filter, take}
use Rattle.path_trie.specs.private.Linked.{ends_at}
use Rattle.path_trie.proofs.trie.count_ends.Given as goal

abbrev pub invariant-loop-end : goal.invariant-loop-end
invariant-loop-end l = l.total ≡ sum_by (λ e. e.count) (filter (ends_at l.node l.column) (take l.end-index l.ends))
