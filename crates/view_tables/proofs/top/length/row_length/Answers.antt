use Rattle.std.proofs.Common.{◌≡◌, length, ap, ◌∙◌, arith}
use Rattle.scope_types.specs.declared.scope.Scope.{Scope}
use Rattle.tree_types.specs.Database.{naming_in}
use Rattle.tree_types.specs.Nodes.{own_scope}
use Rattle.tree_types.specs.TopDown.{label}
use Rattle.view_tables.specs.private.top.Rows.{capped}
use Rattle.view_tables.specs.private.Values.{path_of_node}
use Rattle.view_tables.proofs.NamesFound.{names_ascend}
use Rattle.view_tables.proofs.TableRows.{row_long}
use Rattle.view_tables.proofs.top.length.row_length.Goals as goal

pub label_length-requires : goal.label_length-requires
label_length-requires c = names_ascend c.args.content.now c.requires.profile

pub returns : goal.returns
returns c =
    let name : c.label_length.result ≡ capped (length (label (naming_in c.args.content.now.names) (own_scope (path_of_node c.args.content.now c.args.number)))) =
    c.label_length.ensures ∙ ap (λ (s : Scope). capped (length (label (naming_in c.args.content.now.names) s))) c.scope_at-scope.ensures in
    let long = row_long c.args.content.now c.args.number c.requires.profile c.requires.number c.requires.small in
    let level = c.from.ensures in
    let deep = c.requires.depth in
    let sum = c.saturating_add.ensures in
    omega (arith, long, level, deep, sum, name)
