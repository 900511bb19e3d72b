use Rattle.std.proofs.Common.{Option, sym, subst, ◌∙◌}
use Rattle.cfi_table.specs.declared.rules.Rules.{Rules}
use Rattle.cfi_unwind.specs.private.Index.{IsAt}
use Rattle.cfi_unwind.proofs.Indexing.{no_rules_at, none_if}
use Rattle.cfi_unwind.proofs.unwind_rules.id_at_address.Goals as goal

pub returns-then-is_none-clause-id : goal.returns-then-is_none-clause-id
returns-then-is_none-clause-id c at_none at_latest =
    subst (λ (o : Option Rules). IsAt c.args.unwind_rules.now.items 0 o) (sym (no_rules_at c.args.table.now c.args.pc (sym c.fde_at.ensures ∙ none_if _ _ c.is_none.ensures c.if-is_none.true))) at_none
