use Rattle.std.proofs.Common.{rules, refl, ◌≡◌, ◌++◌, List, ℕ, ap, ◌∙◌}
use Rattle.prof_bytes.specs.Outcome.{FailsBy, viewed}
use Rattle.eh_frame.specs.Entries.{content_of_fde}
use Rattle.eh_frame.specs.Translation.{translated_offset, fde_head, entry_body}
use Rattle.eh_frame.proofs.Entries.{fde_body}
use Rattle.eh_frame.proofs.entry.read_fde.Goals as goal
use Rattle.eh_frame.proofs.entry.read_fde.Goals.{in-Some+in_ok-start+in_ok-put_fde_head+in_ok-put_fde_instructions, in_default}

pub returns-in_err-put_fde_instructions-clause-content : goal.returns-in_err-put_fde_instructions-clause-content
returns-in_err-put_fde_instructions-clause-content c =
    let head : c.put_fde_head.new.out.items ≡ fde_head (translated_offset c.args.base c.args.known.now.offset) c.in_ok-start.start c.in_ok-start.range =
    c.in_ok-put_fde_head.ensures ∙ ap (λ (bs : List ℕ). bs ++ fde_head (translated_offset c.args.base c.args.known.now.offset) c.in_ok-start.start c.in_ok-start.range) c.new-body.ensures.items in
    let known = (rw c.in-Some.is at c.requires.known.forms) in
    let own = c.in_err-put_fde_instructions.ensures.put c.in_ok-start.start known.0.1 known.2 in
    let failed : FailsBy c.in_err-put_fde_instructions.field-0.0 (viewed (entry_body c.args.base) (content_of_fde c.args.section.now c.args.address c.args.known.now.offset c.args.reader.now c.args.known.now.cie)) =
    rw (c.in-Some.is, fde_body c.args.section.now c.args.address c.args.base c.args.known.now.offset c.args.reader.now c.fde_fields.new.reader c.in-Some.cie (c.in_ok-start.start, c.in_ok-start.range) known.0 c.in_ok-start.ensures.fields known.1)
    (rw head at own) in
    search rules

pub returns-clause-content : goal.returns-clause-content
returns-clause-content c = elim c.match-known.branch [
  | in-Some+in_ok-start+in_ok-put_fde_head+in_ok-put_fde_instructions w ↦
      let head : w.put_fde_head.new.out.items ≡ fde_head (translated_offset c.args.base c.args.known.now.offset) w.in_ok-start.start w.in_ok-start.range =
      w.in_ok-put_fde_head.ensures ∙ ap (λ (bs : List ℕ). bs ++ fde_head (translated_offset c.args.base c.args.known.now.offset) w.in_ok-start.start w.in_ok-start.range) c.new-body.ensures.items in
      let known = (rw w.in-Some.is at c.requires.known.forms) in
      let own = w.in_ok-put_fde_instructions.ensures.put w.in_ok-start.start known.0.1 known.2 in
      rw (w.body-is, w.in-Some.is, fde_body c.args.section.now c.args.address c.args.base c.args.known.now.offset c.args.reader.now w.fde_fields.new.reader w.in-Some.cie (w.in_ok-start.start, w.in_ok-start.range) known.0 w.in_ok-start.ensures.fields known.1)
      (rw head at own)
  | in_default w ↦ rw (w.body-is, w.in_default.is, c.new-body.ensures.items) refl
]
