use Rattle.std.proofs.Common.{sym, ◌∙◌, arith}
use Rattle.cfi_unwind.proofs.Indexing.{no_rules_from, none_if}
use Rattle.cfi_unwind.proofs.index.is_after_fdes.Goals as goal

pub returns-then-is_none : goal.returns-then-is_none
returns-then-is_none c behind address from =
    let here = c.in-Some.ensures in
    no_rules_from c.args.table.now c.in-Some.pc address (omega arith) (sym c.fde_at.ensures ∙ none_if _ _ c.is_none.ensures c.if-is_none.true)
    (sym c.starts_above.ensures ∙ none_if _ _ c.is_none-then-is_none.ensures behind)
