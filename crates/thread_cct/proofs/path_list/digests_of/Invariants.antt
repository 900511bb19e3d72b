use Rattle.std.proofs.Common.{◌≡◌, map, take}
use Rattle.thread_cct.specs.private.Digests.{digest_at}
use Rattle.thread_cct.proofs.path_list.digests_of.Given as goal

abbrev pub invariant-loop-path : goal.invariant-loop-path
invariant-loop-path l = l.digests.items ≡ map (digest_at l.pcs) (take l.path-index l.paths)
