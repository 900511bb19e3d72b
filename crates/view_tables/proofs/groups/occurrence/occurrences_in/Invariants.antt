use Rattle.view_tables.proofs.grouping.Gathered.{so_far}
use Rattle.view_tables.proofs.groups.occurrence.occurrences_in.Given as goal

abbrev pub invariant-loop-number : goal.invariant-loop-number
invariant-loop-number l = so_far l.view l.content l.occurrences.items l.number
