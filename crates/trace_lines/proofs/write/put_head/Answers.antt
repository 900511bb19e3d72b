use Rattle.std.proofs.Common.{◌++◌, ◌∙◌, ap, length}
use Rattle.prof_bytes.specs.Number.{word}
use Rattle.trace_lines.specs.Spelling.{trace_magic}
use Rattle.trace_lines.proofs.Writing.{five_parts}
use Rattle.trace_lines.proofs.write.put_head.Goals as goal

pub returns-clause-head : goal.returns-clause-head
returns-clause-head c =
    let t = c.args.trace.now in
    five_parts _ _ _ _ _ _ trace_magic (word t.length) (word t.entry) (word t.period) (word (length t.harts)) c.in_ok-extend_from_slice.ensures.items
    (c.in_ok-put_u32.ensures.ok ∙ ap (λ n. c.extend_from_slice.new.self.items ++ word n) c.length.ensures)
    (c.in_ok-put_u32-2.ensures.ok ∙ ap (λ n. c.put_u32.new.out.items ++ word n) c.entry.ensures)
    (c.in_ok-put_u32-3.ensures.ok ∙ ap (λ n. c.put_u32-2.new.out.items ++ word n) c.period.ensures)
    (c.in_ok-put_u32-4.ensures.ok ∙ ap (λ n. c.put_u32-3.new.out.items ++ word n) c.harts.ensures.harts)
