use Rattle.std.proofs.Common.{◌≡◌, take}
use Rattle.prof_db.specs.ValueRules.{sampled_nodes}
use Rattle.prof_db.proofs.entry_rules.sampled_nodes.Given as goal

abbrev pub invariant-loop-e : goal.invariant-loop-e
invariant-loop-e l = l.numbers.items ≡ sampled_nodes (take l.e-index l.entries)
