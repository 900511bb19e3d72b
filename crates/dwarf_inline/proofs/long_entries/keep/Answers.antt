use Rattle.std.proofs.Common.{sym, ◌∙◌}
use Rattle.dwarf_inline.proofs.KeptAnswers.{one_kept}
use Rattle.dwarf_inline.proofs.long_entries.keep.Goals as goal

pub returns-in-Ok : goal.returns-in-Ok
returns-in-Ok c = λ info were is. one_kept info c.args.answers.now c.add_answer.new.answers c.args.index c.args.answer c.in-Ok.ensures.ok were is

pub returns-in-Err : goal.returns-in-Err
returns-in-Err c = λ info were is i answer e. were i answer (sym (c.in-Err.ensures.err i) ∙ e)
