use Rattle.std.proofs.Common.{length}
use Rattle.thread_cct.proofs.path_list.+are_frames.Given as goal

abbrev pub decreases-are_frames : goal.decreases-are_frames
decreases-are_frames l = length l.frames.now
