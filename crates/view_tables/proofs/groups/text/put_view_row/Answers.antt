use Rattle.view_tables.proofs.grouping.ViewTexts.{five_parts}
use Rattle.view_tables.proofs.groups.text.put_view_row.Goals as goal

pub returns : goal.returns
returns c = five_parts _ _ _ _ _ _ _ _ _ _ _ c.in_ok-put_values.ensures c.in_ok-put_spaces.ensures c.in_ok-put_mark.ensures c.in_ok-put_item_label.ensures c.in_ok-extend_from_slice.ensures.items
