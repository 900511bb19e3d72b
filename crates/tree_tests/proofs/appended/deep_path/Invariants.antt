use Rattle.std.proofs.Common.{◌≡◌, length}
use Rattle.tree_tests.proofs.appended.deep_path.Given as goal

abbrev pub invariant-loop : goal.invariant-loop
invariant-loop l = length l.frames.items ≡ l.counter
