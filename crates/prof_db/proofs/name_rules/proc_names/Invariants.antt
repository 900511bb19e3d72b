use Rattle.std.proofs.Common.{◌≡◌, take, map}
use Rattle.prof_db.specs.NameRules.{raw_proc_name}
use Rattle.prof_db.proofs.name_rules.proc_names.Given as goal

abbrev pub invariant-loop-p : goal.invariant-loop-p
invariant-loop-p l = l.names.items ≡ map raw_proc_name (take l.p-index l.procs)
