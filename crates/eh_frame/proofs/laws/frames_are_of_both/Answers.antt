use Rattle.eh_frame.proofs.JoinedFrames.{frames_are_of_both}
use Rattle.eh_frame.proofs.laws.frames_are_of_both.Goals as goal

pub returns : goal.returns
returns c = frames_are_of_both
