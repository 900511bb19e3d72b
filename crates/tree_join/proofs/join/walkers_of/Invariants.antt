use Rattle.std.proofs.Common.{◌≡◌, [], map, take, All}
use Rattle.tree_join.specs.private.Walk.{IsWalker, walked_entries}
use Rattle.tree_join.proofs.join.walkers_of.Given as goal

abbrev pub invariant-loop-trie : goal.invariant-loop-trie
invariant-loop-trie l = All (IsWalker []) l.walkers.items × (map walked_entries l.walkers.items ≡ map (λ t. t.now) (take l.trie-index l.tries))
