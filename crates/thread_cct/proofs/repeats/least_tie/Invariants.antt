use Rattle.std.proofs.Common.{MatchOption}
use Rattle.thread_cct.specs.private.Keys.{HasNoTie, IsLeastTie}
use Rattle.thread_cct.proofs.repeats.least_tie.Given as goal

abbrev pub invariant-loop-index : goal.invariant-loop-index
invariant-loop-index l = MatchOption l.least (HasNoTie l.keys l.index) (IsLeastTie l.keys l.index)
