use Rattle.std.proofs.Common.{rules}
use Rattle.view_tables.specs.private.groups.Occurrences.{item_seen}
use Rattle.view_tables.proofs.grouping.SortedSeen.{sorted_seen}
use Rattle.view_tables.proofs.ViewOrders.{item_order_total, item_order_tells}
use Rattle.view_tables.specs.contracts.groups.item.ItemRefOrd.TheImpl.{ghosts}
use Rattle.view_tables.proofs.groups.group.ascend_items.Goals as goal

pub returns : goal.returns
returns c = sorted_seen item_seen item_order_total item_order_tells {C = ghosts.cmp} c.args.items.now.items c.sort_once.new.values.items
    c.sort_once.ensures.sorted c.sort_once.ensures.kept (λ x y. search rules)
