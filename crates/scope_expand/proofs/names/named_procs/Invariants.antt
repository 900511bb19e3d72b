use Rattle.std.proofs.Common.{◌≡◌, map, take}
use Rattle.scope_find.specs.Found.{naming_of}
use Rattle.scope_expand.specs.TreeNames.{named_proc}
use Rattle.scope_expand.proofs.names.named_procs.Given as goal

abbrev pub invariant-loop-id : goal.invariant-loop-id
invariant-loop-id l = l.procs.items ≡ map (named_proc (naming_of l.finder)) (take l.id-index l.ids)
