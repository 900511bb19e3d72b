use Rattle.std.proofs.Common.{ℕ, List, get_or, sym, ap, subst, ◌∙◌}
use Rattle.scope_types.specs.declared.scope.RootKind.TheVariants.{Thread}
use Rattle.scope_types.specs.declared.scope.Scope.TheVariants.{Root}
use Rattle.tree_types.specs.declared.content.Node.{Node}
use Rattle.view_tables.specs.private.groups.Frames.{IsHeadOf, head_above, stops}
use Rattle.view_tables.proofs.grouping.Searches.{head_further}
use Rattle.view_tables.proofs.groups.heads.head_of.Goals as goal

abbrev some_node : Node
some_node = record { parent = 0; scope = Root Thread }

pub returns-else-is_stop : goal.returns-else-is_stop
returns-else-is_stop c =
    subst (λ (h : ℕ). IsHeadOf c.args.view c.args.content.now c.args.number h)
    (sym (c.head_at.ensures ∙ ap (λ (all : List Node). head_above c.args.heads.now (get_or all c.args.number some_node).parent) c.items.ensures))
    (head_further c.args.view c.args.content.now c.args.heads.now c.args.number some_node c.requires.profile c.requires.heads c.requires.number c.requires.node
    (ap (λ (all : List Node). stops c.args.view (get_or all c.args.number some_node).scope) (sym c.items.ensures) ∙ sym c.is_stop.ensures ∙ c.if-is_stop.false))
