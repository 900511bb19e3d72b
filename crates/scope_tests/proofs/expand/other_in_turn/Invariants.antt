use Rattle.scope_expand.specs.Kept.{MemoFits}
use Rattle.scope_tests.proofs.expand.other_in_turn.Given as goal

abbrev pub invariant-loop-k : goal.invariant-loop-k
invariant-loop-k l = MemoFits l.expander l.memo
