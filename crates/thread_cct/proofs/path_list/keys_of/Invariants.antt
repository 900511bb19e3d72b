use Rattle.thread_cct.specs.private.Listed.{listed_paths}
use Rattle.thread_cct.proofs.Listed.{KeysSoFar}
use Rattle.thread_cct.proofs.path_list.keys_of.Given as goal

abbrev pub invariant-loop-number : goal.invariant-loop-number
invariant-loop-number l = KeysSoFar (listed_paths l.pcs l.paths) l.number l.keys.items
