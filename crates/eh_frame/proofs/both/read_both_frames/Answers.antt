use Rattle.std.proofs.Common.{List, Result, subst, arith}
use Rattle.prof_bytes.specs.Number.{IsBytes}
use Rattle.prof_bytes.specs.Outcome.{Gives}
use Rattle.cfi_table.specs.Frames.{Frames, FrameDescription, descriptions}
use Rattle.eh_frame.specs.declared.both.SectionFault.{SectionFault}
use Rattle.eh_frame.specs.Translation.{frames_with_eh}
use Rattle.eh_frame.proofs.Outcomes.{gives_viewed}
use Rattle.eh_frame.proofs.JoinedFrames.{frames_are_of_both}
use Rattle.eh_frame.proofs.both.read_both_frames.Goals as goal

pub returns-clause-descriptions : goal.returns-clause-descriptions
returns-clause-descriptions c =
    let bytes : IsBytes c.args.eh_frame.now = λ i. (let fits = c.type_inv.eh_frame i in omega arith) in
    let P : Result (List FrameDescription) SectionFault → Type 0 = λ w. Gives descriptions c.translated_frames.result w in
    subst P (frames_are_of_both c.args.debug_frame.now c.args.eh_frame.now c.args.address c.args.image.now.segments c.requires bytes)
    (gives_viewed (λ (table : Frames). table) descriptions c.translated_frames.result (frames_with_eh c.args.debug_frame.now c.args.eh_frame.now c.args.address c.args.image.now.segments) c.translated_frames.ensures)
