use Rattle.std.proofs.Common.{◌-◌, length, ap, sym, subst, ◌∙◌, arith}
use Rattle.tree_types.specs.NodeValues.{AreValues}
use Rattle.tree_types.proofs.WholeValues.{are_values}
use Rattle.metric_sums.specs.private.Ancestors.{period_in}
use Rattle.metric_sums.proofs.Stepping.{begun, all_made}
use Rattle.metric_sums.proofs.walk.walked.Goals as goal

pub loop-done-init : goal.loop-done-init
loop-done-init c =
    let size = ap length c.nodes-nodes.ensures.nodes in
    begun (period_in c.args.periods.now) c.args.tree.now c.counts.ensures.tree c.requires.few (length c.nodes-nodes.result.now - 0) (length c.counts.result.now) c.new.result.items c.new-3.result.items
    (omega (arith, size)) (ap length c.counts.ensures.counts) c.new.ensures.items c.new-3.ensures.items

pub of-requires : goal.of-requires
of-requires c =
    let made = all_made (period_in c.args.periods.now) c.args.tree.now c.counts.ensures.tree c.requires.few (length c.nodes-nodes.result.now) c.loop-done.done c.columns.result c.loop-done.walk.left c.loop-done.walk.ancestors.items c.loop-done.walk.out.items c.turned.result.items
    (ap length c.nodes-nodes.ensures.nodes) (omega arith) c.loop-done.invariant c.columns.ensures.columns c.turned.ensures in
    subst AreValues made (are_values (period_in c.args.periods.now) c.args.tree.now)

pub returns : goal.returns
returns c =
    c.of.ensures
    ∙ sym (all_made (period_in c.args.periods.now) c.args.tree.now c.counts.ensures.tree c.requires.few (length c.nodes-nodes.result.now) c.loop-done.done c.columns.result c.loop-done.walk.left c.loop-done.walk.ancestors.items c.loop-done.walk.out.items c.turned.result.items
    (ap length c.nodes-nodes.ensures.nodes) (omega arith) c.loop-done.invariant c.columns.ensures.columns c.turned.ensures)
