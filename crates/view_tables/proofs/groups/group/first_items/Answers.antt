use Rattle.std.proofs.Common.{◌≡◌, List, map, ap, ◌∙◌, take_all, arith}
use Rattle.tree_types.specs.Ascending.{ascending}
use Rattle.tree_types.proofs.Selecting.{map_of_map}
use Rattle.view_tables.specs.declared.groups.item.ItemRef.{ItemRef}
use Rattle.view_tables.specs.declared.groups.occurrence.Split.{Split}
use Rattle.view_tables.specs.Views.{item_order}
use Rattle.view_tables.specs.private.groups.Occurrences.{item_seen, items_seen}
use Rattle.view_tables.proofs.groups.group.first_items.Goals as goal

pub returns : goal.returns
returns c =
    let past = c.loop-s-test.false in
    let all : c.loop-s.items.items ≡ map (λ (s : Split). s.item) c.args.splits.now =
    c.loop-s.invariant ∙ ap (map (λ (s : Split). s.item)) (take_all c.loop-s.s-index c.args.splits.now (omega arith)) in
    c.ascend_items.ensures ∙ ap (λ (l : List ItemRef). ascending item_order (items_seen l)) all
    ∙ ap (ascending item_order) (map_of_map item_seen (λ (s : Split). s.item) c.args.splits.now)
