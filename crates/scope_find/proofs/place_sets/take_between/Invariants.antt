use Rattle.std.proofs.Common.{◌-◌, ◌≤◌}
use Rattle.scope_find.specs.private.Places.{AreTakenUpTo}
use Rattle.scope_find.proofs.place_sets.take_between.Given as goal

abbrev pub invariant-loop-place : goal.invariant-loop-place
invariant-loop-place l = record {
  from : l.low ≤ l.at;
  are : AreTakenUpTo l.low l.high l.at l.initial.places.keys l.places.keys l.initial.taken.items l.taken.items;
}

abbrev pub decreases-loop-place : goal.decreases-loop-place
decreases-loop-place l = l.high - l.at
