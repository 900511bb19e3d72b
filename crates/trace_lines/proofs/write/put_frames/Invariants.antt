use Rattle.std.proofs.Common.{◌≡◌, ◌++◌, take}
use Rattle.std.specs.List.{flat_map}
use Rattle.measure_file.specs.Spelling.{frame_bytes}
use Rattle.trace_lines.proofs.write.put_frames.Given as goal

abbrev pub invariant-loop-frame : goal.invariant-loop-frame
invariant-loop-frame l = l.out.items ≡ l.fn.out.items ++ flat_map frame_bytes (take l.frame-index l.frames)
