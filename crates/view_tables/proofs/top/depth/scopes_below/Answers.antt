use Rattle.std.proofs.Common.{◌≡◌, ◌+◌, ◌<◌, List, length, get_or, sym, ap, subst, arith}
use Rattle.scope_types.specs.declared.scope.RootKind.TheVariants.{Thread}
use Rattle.scope_types.specs.declared.scope.Scope.TheVariants.{Root}
use Rattle.tree_types.specs.declared.content.Node.{Node}
use Rattle.view_tables.specs.private.Values.{path_of_node}
use Rattle.view_tables.specs.private.top.Rows.{LiesBelow}
use Rattle.view_tables.proofs.Depths.{below_is_node, few_depth, parent_lies_below, one_shorter}
use Rattle.view_tables.proofs.top.depth.scopes_below.Goals as goal

abbrev some_node : Node
some_node = record { parent = 0; scope = Root Thread }

pub bounds-nodes-at : goal.bounds-nodes-at
bounds-nodes-at c =
    let lt = below_is_node c.args.content.now c.loop-at.at c.args.ancestor c.requires.profile c.loop-at.invariant.below c.loop-at-test.true in
    let long : length c.items-nodes.result.now ≡ length c.args.content.now.nodes = ap length c.items-nodes.ensures in
    omega (arith, lt, long)

pub overflow_add-count : goal.overflow_add-count
overflow_add-count c =
    let lt = below_is_node c.args.content.now c.loop-at.at c.args.ancestor c.requires.profile c.loop-at.invariant.below c.loop-at-test.true in
    let one = one_shorter c.args.content.now c.loop-at.at some_node c.requires.profile lt in
    let few = few_depth c.args.content.now c.args.from c.requires.profile c.requires.below.below in
    let depth = c.loop-at.invariant.depth in
    omega (arith, one, few, depth)

pub loop-at-smaller : goal.loop-at-smaller
loop-at-smaller c =
    let lt = below_is_node c.args.content.now c.loop-at.at c.args.ancestor c.requires.profile c.loop-at.invariant.below c.loop-at-test.true in
    let one = one_shorter c.args.content.now c.loop-at.at some_node c.requires.profile lt in
    subst (λ (all : List Node). length (path_of_node c.args.content.now (get_or all c.loop-at.at some_node).parent) < length (path_of_node c.args.content.now c.loop-at.at)) (sym c.items-nodes.ensures) (omega (arith, one))

pub loop-at-preserved : goal.loop-at-preserved
loop-at-preserved c =
    let lt = below_is_node c.args.content.now c.loop-at.at c.args.ancestor c.requires.profile c.loop-at.invariant.below c.loop-at-test.true in
    let one = one_shorter c.args.content.now c.loop-at.at some_node c.requires.profile lt in
    let depth = c.loop-at.invariant.depth in
    record {
      depth = subst (λ (all : List Node). c.loop-at.count + 1 + length (path_of_node c.args.content.now (get_or all c.loop-at.at some_node).parent) ≡ length (path_of_node c.args.content.now c.args.from)) (sym c.items-nodes.ensures) (omega (arith, one, depth));
      below = subst (λ (all : List Node). LiesBelow c.args.content.now (get_or all c.loop-at.at some_node).parent c.args.ancestor) (sym c.items-nodes.ensures)
          (parent_lies_below c.args.content.now c.loop-at.at c.args.ancestor some_node c.requires.profile c.loop-at.invariant.below c.loop-at-test.true);
    }
