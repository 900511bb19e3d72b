use Rattle.std.proofs.Common.{◌≡◌, map, take}
use Rattle.view_tables.proofs.groups.view.rests_of.Given as goal

abbrev pub invariant-loop-s : goal.invariant-loop-s
invariant-loop-s l = l.occurrences.items ≡ map (λ s. s.rest) (take l.s-index l.splits)
