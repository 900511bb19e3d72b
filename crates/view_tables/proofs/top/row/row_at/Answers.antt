use Rattle.std.proofs.Common.{◌≡◌, ℕ, ◌-◌, ◌<◌, sum_by, sym, ap, subst, ◌∙◌}
use Rattle.tree_types.specs.declared.content.Kind.TheVariants.{Frame, Inclusive}
use Rattle.view_tables.specs.private.Values.{amount}
use Rattle.view_tables.specs.private.top.Rows.{shown_row}
use Rattle.view_tables.proofs.EntrySums.{value_is, some_total}
use Rattle.view_tables.proofs.top.row.row_at.Goals as goal

pub returns-clause-row : goal.returns-clause-row
returns-clause-row c =
    let content = c.args.content.now in
    let expected = shown_row content c.args.number in
    let inclusive : c.entry_sum.result ≡ expected.inclusive =
    c.entry_sum.ensures ∙ ap (sum_by (amount Inclusive)) c.node-entries.ensures ∙ value_is content c.args.number Inclusive c.requires.profile c.requires.number in
    let frame : c.entry_sum-2.result ≡ expected.frame = c.entry_sum-2.ensures ∙ ap (sum_by (amount Frame)) c.node-entries.ensures ∙ value_is content c.args.number Frame c.requires.profile c.requires.number in
    let level : c.args.depth - 1 ≡ expected.level = ap (λ (k : ℕ). k - 1) c.requires.depth in
    let scope = c.scope_at.ensures in
    λ i. record { inclusive = inclusive i; total = c.requires.total i; frame = frame i; level = level i; scope = scope i }

pub returns-clause-some : goal.returns-clause-some
returns-clause-some c = subst (λ (k : ℕ). 0 < k) (sym c.requires.total) (some_total c.args.content.now c.args.number c.requires.profile c.requires.number)
