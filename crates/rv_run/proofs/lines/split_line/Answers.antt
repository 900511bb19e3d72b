use Rattle.std.proofs.Common.{◌+◌, ◌∷◌, ℕ, List, length, take, sym, ap, ◌∙◌}
use Rattle.std.proofs.lemmas.List.{take_rest}
use Rattle.rv_run.specs.Schedule.{lines}
use Rattle.rv_run.proofs.Lining.{split-some, split-none}
use Rattle.rv_run.proofs.lines.split_line.Goals as goal

pub returns-in-Some-clause-lines : goal.returns-in-Some-clause-lines
returns-in-Some-clause-lines c =
    split-some c.args.bytes.now c.in-Some.end (sym c.line_end.ensures ∙ c.in-Some.is)
    ∙ ap (λ (rest : List ℕ). take c.in-Some.end c.args.bytes.now ∷ lines rest) (sym (take_rest c.args.bytes.now (c.in-Some.end + 1)))

pub returns-in-None-clause-lines : goal.returns-in-None-clause-lines
returns-in-None-clause-lines c =
    split-none c.args.bytes.now (sym c.line_end.ensures ∙ c.in-None.is) c.requires
    ∙ ap (λ (rest : List ℕ). c.args.bytes.now ∷ lines rest) (sym (take_rest c.args.bytes.now (length c.args.bytes.now)))
