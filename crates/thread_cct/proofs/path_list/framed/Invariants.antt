use Rattle.std.proofs.Common.{◌≡◌, map, take}
use Rattle.thread_cct.specs.Listing.{frame_at}
use Rattle.thread_cct.proofs.path_list.framed.Given as goal

abbrev pub invariant-loop-pc : goal.invariant-loop-pc
invariant-loop-pc l = l.frames.items ≡ map frame_at (take l.pc-index l.pcs)
