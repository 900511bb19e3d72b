use Rattle.std.proofs.Common.{◌≡◌, ◌-◌, ◌++◌, take}
use Rattle.std.specs.List.{flat_map}
use Rattle.view_tables.specs.private.groups.Occurrences.{items_seen}
use Rattle.view_tables.proofs.grouping.ViewTexts.{seen_text}
use Rattle.view_tables.proofs.groups.view.+put_rows.Given as goal

abbrev pub invariant-loop-row : goal.invariant-loop-row
invariant-loop-row l = l.out.items ≡ l.initial.out.items ++ flat_map (seen_text l.view l.content (l.levels - 1) (items_seen l.chain)) (take l.row-index l.row-items)

abbrev pub decreases-put_rows : goal.decreases-put_rows
decreases-put_rows l = l.levels
