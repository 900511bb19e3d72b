use Rattle.std.proofs.Common.{◌≡◌, ◌++◌, map}
use Rattle.merge_crew.specs.private.Waits.{first_time}
use Rattle.merge_crew.proofs.work.put_last.Given as goal

abbrev pub invariant-loop-piece : goal.invariant-loop-piece
invariant-loop-piece l = l.queue.items ≡ l.initial.queue.items ++ map first_time l.yielded
