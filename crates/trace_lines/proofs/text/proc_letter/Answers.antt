use Rattle.std.proofs.Common.{sym, ◌∙◌, arith}
use Rattle.trace_lines.specs.Timeline.{same_proc}
use Rattle.trace_lines.proofs.Letters.{letter_none, letter_some}
use Rattle.trace_lines.proofs.text.proc_letter.Goals as goal

pub returns-in-Some : goal.returns-in-Some
returns-in-Some c =
    let short = c.min-lettered.ensures in
    c.letter.ensures ∙ letter_some (same_proc c.args.id) c.args.procs.now c.min-lettered.result c.in-Some.number (omega (arith, short)) (sym c.in-Some.ensures)

pub returns-in-None : goal.returns-in-None
returns-in-None c = c.letter-in-None.ensures ∙ letter_none (same_proc c.args.id) c.args.procs.now c.min-lettered.result c.min-lettered.ensures (sym c.in-None.ensures)
