use Rattle.std.proofs.Common.{◌≡◌}
use Rattle.prof_db.specs.private.EventParts.{kept_nodes}
use Rattle.prof_db.proofs.event_nodes.kept_nodes.Given as goal

abbrev pub invariant-loop-i : goal.invariant-loop-i
invariant-loop-i l = l.kept.items ≡ kept_nodes l.numbers l.nodes l.i
