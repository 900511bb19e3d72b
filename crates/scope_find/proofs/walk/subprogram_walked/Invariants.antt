use Rattle.std.proofs.Common.{◌≡◌, ◌<◌, ℕ, false}
use Rattle.scope_find.specs.private.Painted.{owns}
use Rattle.scope_find.proofs.walk.subprogram_walked.Given as goal

abbrev pub invariant-loop-number : goal.invariant-loop-number
invariant-loop-number l = (k : ℕ) → k < l.number → owns l.structure l.address k ≡ false
