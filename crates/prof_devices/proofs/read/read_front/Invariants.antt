use Rattle.std.proofs.Common.{◌≡◌, ◌+◌, ◌-◌, ◌≤◌, [], length}
use Rattle.prof_devices.specs.private.Parts.{TakesFrom}
use Rattle.prof_devices.proofs.read.read_front.Given as goal

abbrev pub invariant-loop-part : goal.invariant-loop-part
invariant-loop-part g l = record {
  few : length l.bytes.items ≤ l.limit + 1;
  read : TakesFrom (g.S.Source.left l.fn.source) (g.S.Source.left l.source) [] l.bytes.items;
  well : g.S.Source.has_failed l.source ≡ g.S.Source.has_failed l.fn.source;
}

abbrev pub decreases-loop-part : goal.decreases-loop-part
decreases-loop-part g l = l.limit + 1 - length l.bytes.items
