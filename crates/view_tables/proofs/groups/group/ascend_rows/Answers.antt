use Rattle.std.proofs.Common.{rules}
use Rattle.view_tables.specs.private.groups.Occurrences.{row_seen}
use Rattle.view_tables.proofs.grouping.SortedSeen.{sorted_seen}
use Rattle.view_tables.proofs.ViewOrders.{row_order_total, row_order_tells}
use Rattle.view_tables.specs.contracts.groups.item.RowRefOrd.TheImpl.{ghosts}
use Rattle.view_tables.proofs.groups.group.ascend_rows.Goals as goal

pub returns : goal.returns
returns c = sorted_seen row_seen row_order_total row_order_tells {C = ghosts.cmp} c.args.rows.now.items c.sort_once.new.values.items
    c.sort_once.ensures.sorted c.sort_once.ensures.kept (λ x y. search rules)
