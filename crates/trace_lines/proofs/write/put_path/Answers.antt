use Rattle.std.proofs.Common.{List, ◌++◌, ◌∙◌, ap, length}
use Rattle.std.specs.List.{flat_map}
use Rattle.scope_types.specs.declared.frame.Frame.{Frame}
use Rattle.scope_types.specs.Ends.{end_number}
use Rattle.measure_file.specs.Spelling.{frame_bytes}
use Rattle.prof_bytes.specs.Number.{word}
use Rattle.trace_lines.proofs.Writing.{three_parts}
use Rattle.trace_lines.proofs.write.put_path.Goals as goal

pub returns : goal.returns
returns c =
    let raw = c.args.raw.now in
    three_parts _ _ _ _ (word (end_number raw.end)) (word (length raw.frames)) (flat_map frame_bytes raw.frames)
    (c.in_ok-put_u32.ensures.ok ∙ ap (λ n. c.args.out.now.items ++ word n) (c.number.ensures ∙ ap end_number c.end.ensures))
    (c.in_ok-put_u32-2.ensures.ok ∙ ap (λ (fs : List Frame). c.put_u32.new.out.items ++ word (length fs)) c.frames-frames.ensures.frames)
    (c.in_ok-put_frames.ensures ∙ ap (λ (fs : List Frame). c.put_u32-2.new.out.items ++ flat_map frame_bytes fs) c.frames-frames.ensures.frames)
