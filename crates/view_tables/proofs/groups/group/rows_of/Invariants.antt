use Rattle.std.proofs.Common.{take}
use Rattle.view_tables.proofs.grouping.Groups.{rows_so_far}
use Rattle.view_tables.proofs.groups.group.rows_of.Given as goal

abbrev pub invariant-loop-item : goal.invariant-loop-item
invariant-loop-item l = rows_so_far l.view l.content l.chain l.rows.items (take l.item-index l.item-items)
