use Rattle.std.proofs.Common.{◌≡◌, ◌++◌, take}
use Rattle.std.specs.List.{flat_map}
use Rattle.prof_db.specs.Spelling.{procedure_bytes}
use Rattle.prof_db.proofs.write.put_procs.Given as goal

abbrev pub invariant-loop-p : goal.invariant-loop-p
invariant-loop-p l = l.out.items ≡ l.fn.out.items ++ flat_map procedure_bytes (take l.p-index l.procs)
