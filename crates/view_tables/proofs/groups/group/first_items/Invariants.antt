use Rattle.std.proofs.Common.{◌≡◌, map, take}
use Rattle.view_tables.proofs.groups.group.first_items.Given as goal

abbrev pub invariant-loop-s : goal.invariant-loop-s
invariant-loop-s l = l.items.items ≡ map (λ s. s.item) (take l.s-index l.splits)
