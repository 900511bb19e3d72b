use Rattle.std.proofs.Common.{◌≡◌, map, take}
use Rattle.prof_db.specs.private.EventNames.{proc_again}
use Rattle.prof_db.proofs.event_names.named_procs.Given as goal

abbrev pub invariant-loop-id : goal.invariant-loop-id
invariant-loop-id l = l.procs.items ≡ map (proc_again l.names) (take l.id-index l.ids)
