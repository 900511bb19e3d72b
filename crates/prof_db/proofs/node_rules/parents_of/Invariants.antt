use Rattle.std.proofs.Common.{◌≡◌, take}
use Rattle.prof_db.specs.NodeRules.{parents_of}
use Rattle.prof_db.proofs.node_rules.parents_of.Given as goal

abbrev pub invariant-loop-n : goal.invariant-loop-n
invariant-loop-n l = l.parents.items ≡ parents_of (take l.n-index l.nodes)
