use Rattle.std.proofs.Common.{length, ap, ◌∙◌, arith, ◌++◌, ◌≡◌, List, get_or}
use Rattle.std.specs.Prelude.{reverse}
use Rattle.std.proofs.lemmas.List.{get_or_default}
use Rattle.tree_types.specs.declared.content.Node.{Node}
use Rattle.metric_sums.specs.declared.column_sums.Sum.{Sum}
use Rattle.metric_sums.specs.private.Ancestors.{period_in, values_of_sums}
use Rattle.metric_sums.proofs.Stepping.{sums_small, sums_opened, few_shown, sums_summed, summed_small, same_long, ancestors_little, walked_on}
use Rattle.metric_sums.proofs.walk.step.Goals as goal

pub count-requires-clause-small : goal.count-requires-clause-small
count-requires-clause-small c =
    sums_small (period_in c.args.periods.now) c.args.tree.now c.counts-counts.ensures.tree c.requires.few c.args.node c.sums_of.new.ancestors.items c.in_ok-node_sums.node_sums c.requires.node
    (sums_opened (period_in c.args.periods.now) c.args.tree.now c.counts-counts.ensures.tree c.requires.few c.args.node _ _ _ _ _ _ c.requires.node c.requires.at c.columns.ensures.columns c.in_ok-node_sums.ensures)

pub count-requires-clause-few : goal.count-requires-clause-few
count-requires-clause-few c = few_shown (period_in c.args.periods.now) c.args.tree.now c.counts-counts.ensures.tree c.requires.few c.counts-counts.result.now _ _ c.counts-counts.ensures.counts

pub put_sums-requires-clause-few : goal.put_sums-requires-clause-few
put_sums-requires-clause-few c =
    let opened = sums_opened (period_in c.args.periods.now) c.args.tree.now c.counts-counts.ensures.tree c.requires.few c.args.node _ _ _ _ _ _ c.requires.node c.requires.at c.columns.ensures.columns c.in_ok-node_sums.ensures in
    let long = opened.long in
    let same = ap length c.sums.ensures in
    omega (arith, long, same, c.count.ensures.long, c.columns.ensures.columns)

pub put_sums-requires-clause-periods : goal.put_sums-requires-clause-periods
put_sums-requires-clause-periods c =
    let opened = sums_opened (period_in c.args.periods.now) c.args.tree.now c.counts-counts.ensures.tree c.requires.few c.args.node _ _ _ _ _ _ c.requires.node c.requires.at c.columns.ensures.columns c.in_ok-node_sums.ensures in
    let long = opened.long in
    let same = ap length c.sums.ensures in
    omega (arith, long, same, c.count.ensures.long, c.requires.periods)

pub pass_on-requires-clause-long : goal.pass_on-requires-clause-long
pass_on-requires-clause-long c =
    same_long (period_in c.args.periods.now) c.args.tree.now c.counts-counts.ensures.tree c.requires.few c.args.node c.sums_of.new.ancestors.items c.count.new.self
    (sums_summed (period_in c.args.periods.now) c.args.tree.now c.counts-counts.ensures.tree c.requires.few c.args.node c.args.walk.now.left c.first_own-first.result c.columns.result c.args.walk.now.ancestors.items c.sums_of.new.ancestors.items c.in_ok-node_sums.node_sums c.count.new.self c.args.walk.now.out.items
    c.counts-counts.result.now c.requires.node c.requires.at c.columns.ensures.columns c.in_ok-node_sums.ensures c.counts-counts.ensures.counts
    (record { within = c.first_own-first.ensures.within; own = c.first_own-first.ensures.own; before = c.first_own-first.ensures.before; same = c.count.ensures.long; counted = c.count.ensures.sums }))

pub pass_on-requires-clause-small : goal.pass_on-requires-clause-small
pass_on-requires-clause-small c =
    ancestors_little (period_in c.args.periods.now) c.args.tree.now c.counts-counts.ensures.tree c.requires.few c.args.node c.sums_of.new.ancestors.items c.count.new.self c.requires.node
    (sums_summed (period_in c.args.periods.now) c.args.tree.now c.counts-counts.ensures.tree c.requires.few c.args.node c.args.walk.now.left c.first_own-first.result c.columns.result c.args.walk.now.ancestors.items c.sums_of.new.ancestors.items c.in_ok-node_sums.node_sums c.count.new.self c.args.walk.now.out.items
    c.counts-counts.result.now c.requires.node c.requires.at c.columns.ensures.columns c.in_ok-node_sums.ensures c.counts-counts.ensures.counts
    (record { within = c.first_own-first.ensures.within; own = c.first_own-first.ensures.own; before = c.first_own-first.ensures.before; same = c.count.ensures.long; counted = c.count.ensures.sums }))

pub pass_on-requires-clause-sums : goal.pass_on-requires-clause-sums
pass_on-requires-clause-sums c =
    summed_small (period_in c.args.periods.now) c.args.tree.now c.counts-counts.ensures.tree c.requires.few c.args.node c.sums_of.new.ancestors.items c.count.new.self c.requires.node
    (sums_summed (period_in c.args.periods.now) c.args.tree.now c.counts-counts.ensures.tree c.requires.few c.args.node c.args.walk.now.left c.first_own-first.result c.columns.result c.args.walk.now.ancestors.items c.sums_of.new.ancestors.items c.in_ok-node_sums.node_sums c.count.new.self c.args.walk.now.out.items
    c.counts-counts.result.now c.requires.node c.requires.at c.columns.ensures.columns c.in_ok-node_sums.ensures c.counts-counts.ensures.counts
    (record { within = c.first_own-first.ensures.within; own = c.first_own-first.ensures.own; before = c.first_own-first.ensures.before; same = c.count.ensures.long; counted = c.count.ensures.sums }))

pub returns : goal.returns
returns c =
    let put : reverse c.put_sums.new.out.items ≡ values_of_sums (period_in c.args.periods.now) c.args.node c.count.new.self 0 (length c.count.new.self) ++ reverse c.args.walk.now.out.items =
    c.in_ok-put_sums.ensures ∙ ap (λ (r : List Sum). values_of_sums (period_in c.args.periods.now) c.args.node r 0 (length r) ++ reverse c.args.walk.now.out.items) c.sums.ensures in
    walked_on (period_in c.args.periods.now) c.args.tree.now c.counts-counts.ensures.tree c.requires.few c.pass_on.result c.args.node c.args.walk.now.left c.first_own-first.result c.columns.result c.args.walk.now.ancestors.items c.sums_of.new.ancestors.items c.pass_on.new.ancestors.items
    c.in_ok-node_sums.node_sums c.count.new.self c.args.walk.now.out.items c.put_sums.new.out.items c.counts-counts.result.now _ c.requires.node c.requires.at c.columns.ensures.columns c.in_ok-node_sums.ensures c.counts-counts.ensures.counts
    (record { within = c.first_own-first.ensures.within; own = c.first_own-first.ensures.own; before = c.first_own-first.ensures.before; same = c.count.ensures.long; counted = c.count.ensures.sums })
    put (ap (λ (ns : List Node). get_or ns c.args.node _) c.nodes.ensures.nodes ∙ get_or_default c.args.tree.now.nodes c.args.node _ _ c.requires.node) c.pass_on.ensures.root c.pass_on.ensures.inner
