use Rattle.std.proofs.Common.{◌≡◌, false, take}
use Rattle.thread_cct.specs.Adding.{has_path}
use Rattle.thread_cct.proofs.path_list.PathList.index_of.Given as goal

abbrev pub invariant-loop-index : goal.invariant-loop-index
invariant-loop-index l = has_path l.raw (take l.index l.self) ≡ false
