-- Raw paths, as an unwinder finds them (HPCToolkit's manual, "Call Path Profiling").
use Rattle.std.specs.Prelude.{List, ◌≤◌, ◌==◌, ◌&&◌, length, Bool, true, false}
use Rattle.std.specs.Cmp.Lexicographic.{pointwise}
use Rattle.scope_types.specs.Limits.{most_frames_of_path}
use Rattle.scope_types.specs.declared.frame.Frame.{Frame}
use Rattle.scope_types.specs.declared.frame.End.{End}
use Rattle.scope_types.specs.declared.frame.End.TheVariants.{Whole, Partial}
use Rattle.scope_types.specs.declared.frame.PartialCause.{PartialCause}
use Rattle.scope_types.specs.declared.frame.PartialCause.TheVariants.{NoFde, NoCfa, Expression, Unmapped, Depth}

-- the frames from the innermost outwards, and how they end
pub record Raw : Type 0 where
  pub end : End
  pub frames : List Frame

-- a path has at least one frame, and no more than the most that a path may have
pub record HasFrames (frames : List Frame) : Type 0 where
  pub some : 1 ≤ length frames
  pub few : length frames ≤ most_frames_of_path

-- ---- which raw paths are the same

-- the same cause of a partial path
abbrev pub same_cause : PartialCause → PartialCause → Bool
same_cause NoFde NoFde = true
same_cause NoCfa NoCfa = true
same_cause Expression Expression = true
same_cause Unmapped Unmapped = true
same_cause Depth Depth = true
same_cause a b = false

-- both are whole, or both are partial for the same cause
abbrev pub same_end : End → End → Bool
same_end Whole Whole = true
same_end (Partial a) (Partial b) = same_cause a b
same_end a b = false

-- the same address
abbrev pub same_frame : Frame → Frame → Bool
same_frame a b = a.pc == b.pc

-- their ends and their frames are the same
abbrev pub same_raw : Raw → Raw → Bool
same_raw a b = same_end a.end b.end && pointwise same_frame a.frames b.frames
