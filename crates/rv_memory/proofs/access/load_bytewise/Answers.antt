use Rattle.std.proofs.Common.{ℕ, Some, sym, ap, ◌∙◌}
use Rattle.rv_memory.proofs.Whole.{loaded-paged}
use Rattle.rv_memory.proofs.access.load_bytewise.Goals as goal

pub returns-clause-number : goal.returns-clause-number
returns-clause-number c =
    ap (λ (n : ℕ). Some n) c.number_bytewise.ensures.value
    ∙ sym (loaded-paged c.args.paged.now c.args.at c.args.count c.requires.paged (sym c.all_granted.ensures ∙ c.if-not-all_granted.false))
