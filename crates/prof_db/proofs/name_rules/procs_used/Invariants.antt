use Rattle.std.proofs.Common.{◌≡◌, take}
use Rattle.prof_db.specs.NameRules.{used_procs}
use Rattle.prof_db.proofs.name_rules.procs_used.Given as goal

abbrev pub invariant-loop-node : goal.invariant-loop-node
invariant-loop-node l = l.used.items ≡ used_procs (take l.node-index l.nodes)
