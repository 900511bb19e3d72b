use Rattle.std.proofs.Common.{◌≡◌, take, map}
use Rattle.prof_db.specs.NameRules.{file_name}
use Rattle.prof_db.proofs.name_rules.file_names.Given as goal

abbrev pub invariant-loop-f : goal.invariant-loop-f
invariant-loop-f l = l.names.items ≡ map file_name (take l.f-index l.files)
