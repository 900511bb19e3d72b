use Rattle.std.proofs.Common.{◌≡◌, ◌∙◌}
use Rattle.view_tables.specs.Views.{row_at}
use Rattle.view_tables.specs.private.groups.Occurrences.{item_seen, items_seen, content_samples}
use Rattle.view_tables.proofs.grouping.Narrowed.{cover_small, group_covers, group_inside, group_weighs, ranges_of, weigh_small}
use Rattle.view_tables.proofs.groups.group.row_of.Goals as goal

pub covered-requires-clause-ranges : goal.covered-requires-clause-ranges
covered-requires-clause-ranges c = ranges_of c.args.view c.args.content.now c.args.frames.now c.requires.frames

pub covered-requires-clause-inside : goal.covered-requires-clause-inside
covered-requires-clause-inside c =
    group_inside c.args.view c.args.content.now (items_seen c.args.chain.now) (item_seen c.args.item) c.args.splits.now c.group_of-group.result.now c.requires.splits c.group_of-group.ensures _ c.requires.frames.ends.long

pub covered-requires-clause-small : goal.covered-requires-clause-small
covered-requires-clause-small c =
    cover_small c.args.view c.args.content.now (items_seen c.args.chain.now) (item_seen c.args.item) c.args.splits.now c.group_of-group.result.now c.requires.splits c.group_of-group.ensures c.requires.profile c.args.frames.now c.requires.frames

pub weight_of-requires-clause-inside : goal.weight_of-requires-clause-inside
weight_of-requires-clause-inside c =
    group_inside c.args.view c.args.content.now (items_seen c.args.chain.now) (item_seen c.args.item) c.args.splits.now c.group_of-group.result.now c.requires.splits c.group_of-group.ensures _ c.requires.frames.weights.long

pub weight_of-requires-clause-small : goal.weight_of-requires-clause-small
weight_of-requires-clause-small c =
    weigh_small c.args.view c.args.content.now (items_seen c.args.chain.now) (item_seen c.args.item) c.args.splits.now c.group_of-group.result.now c.requires.splits c.group_of-group.ensures c.requires.profile c.args.frames.now c.requires.frames

pub returns : goal.returns
returns c =
    let row = row_at c.args.content.now.period (content_samples c.args.view c.args.content.now) (items_seen c.args.chain.now) (item_seen c.args.item) in
    let inclusive : c.covered.result ≡ row.inclusive =
    c.covered.ensures ∙ group_covers c.args.view c.args.content.now (items_seen c.args.chain.now) (item_seen c.args.item) c.args.splits.now c.group_of-group.result.now c.requires.splits c.group_of-group.ensures c.requires.profile c.args.frames.now c.requires.frames in
    let exclusive : c.weight_of.result ≡ row.exclusive =
    c.weight_of.ensures ∙ group_weighs c.args.view c.args.content.now (items_seen c.args.chain.now) (item_seen c.args.item) c.args.splits.now c.group_of-group.result.now c.requires.splits c.group_of-group.ensures c.requires.profile c.args.frames.now c.requires.frames in
    λ i. record { inclusive = inclusive i; item = item_seen c.args.item; exclusive = exclusive i }
