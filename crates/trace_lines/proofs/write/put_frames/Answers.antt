use Rattle.std.proofs.lemmas.List.{get_or_default}
use Rattle.measure_file.specs.Spelling.{frame_bytes}
use Rattle.prof_bytes.proofs.Appending.{append_more}
use Rattle.trace_lines.proofs.write.put_frames.Goals as goal

pub loop-frame-preserved : goal.loop-frame-preserved
loop-frame-preserved c = append_more frame_bytes _ _ _ _ _ _ c.loop-frame-test.true (get_or_default _ _ _ _ c.loop-frame-test.true) c.loop-frame.invariant c.in_ok-put_u32.ensures.ok
