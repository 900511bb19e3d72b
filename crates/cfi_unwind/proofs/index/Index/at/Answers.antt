use Rattle.std.proofs.Common.{◌/◌, ◌-◌, sym, ◌∙◌, arith}
use Rattle.cfi_unwind.proofs.Indexing.{rule_with}
use Rattle.cfi_unwind.proofs.index.Index.at.Goals as goal

pub returns-clause-finds : goal.returns-clause-finds
returns-clause-finds c u is =
    rule_with u c.args.self.now c.args.pc (c.args.pc / 4 - c.args.self.now.first) c.in_ok-id.id c.rule_with.result is
    (sym c.in_ok-id.was ∙ (rw c.deref.ensures.value at c.id_at.ensures))
    (let whole = c.if-pc-ne0.false in let above = c.if-word-self.false in omega arith)
    (rw c.deref-2.ensures.value at c.rule_with.ensures)
