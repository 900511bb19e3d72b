use Rattle.std.proofs.Common.{◌≡◌, map, take}
use Rattle.view_tables.specs.private.groups.Occurrences.{cut_of, cuts, held}
use Rattle.view_tables.proofs.groups.group.split_all.Given as goal

abbrev pub invariant-loop-occurrence : goal.invariant-loop-occurrence
invariant-loop-occurrence l = map (cut_of l.view l.content) l.splits.items ≡ cuts (map (held l.view l.content) (take l.occurrence-index l.occurrences))
