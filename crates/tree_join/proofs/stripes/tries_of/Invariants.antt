use Rattle.std.proofs.Common.{◌≡◌, ◌<◌, map}
use Rattle.std.specs.List.{range_with_len}
use Rattle.stripe_table.specs.Ends.{AllFit, trie_of}
use Rattle.stripe_table.specs.Limits.{IsLimited}
use Rattle.tree_join.proofs.stripes.tries_of.Given as goal

abbrev pub invariant-loop-stripe : goal.invariant-loop-stripe
invariant-loop-stripe l = (map (λ t. t.now) l.tries.items ≡ map (trie_of l.set.stripes) (range_with_len 0 l.stripe)) × (0 < l.stripe → AllFit l.set.view.plan l.set.stripes × IsLimited l.set.view.plan)
