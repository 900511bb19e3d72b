use Rattle.std.proofs.Common.{List, ◌++◌, ◌∙◌, ap, length}
use Rattle.std.specs.List.{flat_map}
use Rattle.scope_types.specs.declared.frame.Frame.{Frame}
use Rattle.scope_types.specs.Ends.{end_number}
use Rattle.measure_file.specs.Spelling.{frame_bytes}
use Rattle.prof_bytes.specs.Number.{word}
use Rattle.measure_file.proofs.Writing.{four_parts}
use Rattle.measure_file.proofs.write.put_path.Goals as goal

pub returns : goal.returns
returns c =
    let counted = c.args.counted.now in
    four_parts _ _ _ _ _ (word counted.count) (word (end_number counted.path.end)) (word (length counted.path.frames)) (flat_map frame_bytes counted.path.frames) c.in_ok-put_u32.ensures.ok
    (c.in_ok-put_u32-2.ensures.ok ∙ ap (λ n. c.put_u32.new.out.items ++ word n) (c.number.ensures ∙ ap end_number c.end.ensures))
    (c.in_ok-put_u32-3.ensures.ok ∙ ap (λ (fs : List Frame). c.put_u32-2.new.out.items ++ word (length fs)) c.frames-frames.ensures.frames)
    (c.in_ok-put_frames.ensures ∙ ap (λ (fs : List Frame). c.put_u32-3.new.out.items ++ flat_map frame_bytes fs) c.frames-frames.ensures.frames)
