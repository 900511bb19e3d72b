use Rattle.std.proofs.Common.{◌≡◌, take}
use Rattle.prof_db.specs.NameRules.{used_files}
use Rattle.prof_db.proofs.name_rules.files_used.Given as goal

abbrev pub invariant-loop-node : goal.invariant-loop-node
invariant-loop-node l = l.used.items ≡ used_files (take l.node-index l.nodes)
