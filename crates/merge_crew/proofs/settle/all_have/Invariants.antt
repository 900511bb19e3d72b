use Rattle.std.proofs.Common.{◌≡◌, ℕ, ◌<◌, true}
use Rattle.merge_crew.specs.private.Settling.{chunk_mark}
use Rattle.merge_crew.proofs.settle.all_have.Given as goal

abbrev pub invariant-loop-i : goal.invariant-loop-i
invariant-loop-i l = (s : ℕ) → s < l.i → chunk_mark l.marks s l.chunk ≡ true
