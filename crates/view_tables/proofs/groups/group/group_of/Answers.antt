use Rattle.std.proofs.Common.{rules, Bool}
use Rattle.std.specs.Ordering.{is_le, is_lt}
use Rattle.std.proofs.lemmas.List.Sorted.{IsPartitionPoint-from_clause}
use Rattle.view_tables.specs.declared.groups.occurrence.Split.{Split}
use Rattle.view_tables.specs.private.groups.Occurrences.{item_seen}
use Rattle.view_tables.proofs.grouping.Halved.{group_found, orders_rise, parted_below, parted_within, rest_rises, to_item}
use Rattle.view_tables.proofs.groups.group.group_of.Goals as goal

pub returns : goal.returns
returns c =
    let item = item_seen c.args.item in
    let below : Split → Bool = λ s. is_lt (to_item item s) in
    let within : Split → Bool = λ s. is_le (to_item item s) in
    let first = IsPartitionPoint-from_clause below c.args.splits.now c.partition_point-start.result c.partition_point-start.ensures.partitioned (parted_below item c.args.splits.now (orders_rise item c.args.splits.now c.requires)) (λ a r g called. search rules) in
    let second = IsPartitionPoint-from_clause within _ c.partition_point-count.result c.partition_point-count.ensures.partitioned (parted_within item _ (rest_rises item c.args.splits.now c.partition_point-start.result c.requires)) (λ a r g called. search rules) in
    group_found item c.args.splits.now c.partition_point-start.result c.partition_point-count.result c.partition_point-start.ensures.bound c.partition_point-count.ensures.bound first second
