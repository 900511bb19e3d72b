use Rattle.trace_lines.proofs.Fullness.{full_by_frames}
use Rattle.trace_lines.proofs.laws.frames_are_of_distinct_paths.Goals as goal

pub returns : goal.returns
returns c = full_by_frames
