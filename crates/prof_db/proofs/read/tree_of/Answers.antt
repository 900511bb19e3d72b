use Rattle.std.proofs.Common.{◌≤◌, sym, ap, subst, ◌∙◌}
use Rattle.scope_types.specs.Limits.{most_samples}
use Rattle.tree_types.specs.NodeValues.{values_of}
use Rattle.tree_types.specs.Tree.{CountedTree, counts_in}
use Rattle.prof_db.specs.HeadRules.{layout_period}
use Rattle.prof_db.proofs.Sampled.{columns_each, few_counts, few_each, head_periods, is_tree, tree_values}
use Rattle.prof_db.proofs.read.tree_of.Goals as goal

pub counts_in-requires-clause-periods : goal.counts_in-requires-clause-periods
counts_in-requires-clause-periods c = head_periods c.args.layout.now c.args.periods.now c.requires.head c.requires.periods

pub counts_in-requires-clause-few : goal.counts_in-requires-clause-few
counts_in-requires-clause-few c = few_each c.args.layout.now c.args.nodes.items c.requires.kept c.args.periods.now _ c.requires.periods c.items.ensures

pub counts_in-requires-clause-columns : goal.counts_in-requires-clause-columns
counts_in-requires-clause-columns c = columns_each c.args.layout.now c.args.nodes.items c.requires.kept _ c.requires.head c.items.ensures

pub of-requires : goal.of-requires
of-requires c =
    is_tree c.args.layout.now c.args.nodes.items c.requires.kept c.args.periods.now _ _ _ c.requires.periods c.items.ensures c.in_ok-counts.ensures c.sort.ensures.moved c.requires.head
    c.columns_in.result c.columns_in.ensures c.sort.ensures.sorted c.requires.few c.requires.preorder

pub returns-clause-samples : goal.returns-clause-samples
returns-clause-samples c =
    subst (λ (t : CountedTree). counts_in t.counts ≤ most_samples) (sym c.of.ensures)
    (few_counts c.args.layout.now c.args.nodes.items c.requires.kept c.args.periods.now _ _ _ c.requires.periods c.items.ensures c.in_ok-counts.ensures c.sort.ensures.moved c.requires.head)

pub returns-clause-values : goal.returns-clause-values
returns-clause-values c =
    ap (values_of (layout_period c.args.layout.now)) c.of.ensures
    ∙ tree_values c.args.layout.now c.args.nodes.items c.requires.kept c.args.periods.now _ _ _ c.requires.periods c.items.ensures c.in_ok-counts.ensures c.sort.ensures.moved c.requires.head
    c.columns_in.result c.columns_in.ensures
