use Rattle.std.proofs.Common.{ℕ, ◌++◌, ◌∙◌, ap}
use Rattle.std.specs.Prelude.{codes, decimal}
use Rattle.trace_lines.proofs.Writing.{four_parts}
use Rattle.trace_lines.proofs.text.put_run.Goals as goal

pub returns : goal.returns
returns c =
    four_parts _ _ _ _ _ (codes "timeline harts ") (decimal c.args.harts) (codes " period ") (decimal c.args.period) c.in_ok-put_text.ensures.ok
    (c.in_ok-put_decimal.ensures.ok ∙ ap (λ (n : ℕ). c.put_text.new.out.items ++ decimal n) c.from.ensures) c.in_ok-put_text-2.ensures.ok
    (c.in_ok-put_decimal-2.ensures.ok ∙ ap (λ (n : ℕ). c.put_text-2.new.out.items ++ decimal n) c.from-2.ensures)
