use Rattle.std.proofs.Common.{◌≡◌, ℕ, ◌+◌, List, length, get_or, inr, sym, ap, subst, arith}
use Rattle.scope_types.specs.declared.scope.RootKind.TheVariants.{Thread}
use Rattle.scope_types.specs.declared.scope.Scope.TheVariants.{Root}
use Rattle.tree_types.specs.declared.content.Node.{Node}
use Rattle.view_tables.specs.private.Values.{path_of_node}
use Rattle.view_tables.specs.private.top.Rows.{LiesBelow, number_before}
use Rattle.view_tables.proofs.Depths.{before_lies_below, few_depth, one_shorter}
use Rattle.view_tables.proofs.top.depth.depth_after.Goals as goal

abbrev some_node : Node
some_node = record { parent = 0; scope = Root Thread }

pub scopes_below-requires-clause-below : goal.scopes_below-requires-clause-below
scopes_below-requires-clause-below c =
    subst (λ (k : ℕ). LiesBelow c.args.content.now k (get_or c.items.result.now c.args.number some_node).parent) (sym c.before-2.ensures)
    (subst (λ (all : List Node). LiesBelow c.args.content.now (number_before c.args.number) (get_or all c.args.number some_node).parent) (sym c.items.ensures)
    (before_lies_below c.args.content.now c.args.number some_node c.requires.profile c.requires.number))

pub overflow_add-result : goal.overflow_add-result
overflow_add-result c =
    let content = c.args.content.now in
    let few = few_depth content c.args.number c.requires.profile (inr c.requires.number) in
    let one = one_shorter content c.args.number some_node c.requires.profile c.requires.number in
    let same = ap (λ (all : List Node). length (path_of_node content (get_or all c.args.number some_node).parent)) c.items.ensures in
    let up : c.scopes_below.result + length (path_of_node content (get_or c.items.result.now c.args.number some_node).parent) ≡ length (path_of_node content c.before-2.result) = c.scopes_below.ensures in
    let below = ap (λ (k : ℕ). length (path_of_node content k)) c.before-2.ensures in
    let last = c.requires.last in
    omega (arith, few, one, same, up, below, last)
