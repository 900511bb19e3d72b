use Rattle.std.proofs.Common.{◌≡◌, take, sum}
use Rattle.prof_db.proofs.one_event.harts_of.Given as goal

abbrev pub invariant-loop-run : goal.invariant-loop-run
invariant-loop-run l = l.harts ≡ sum (take l.run-index l.runs)
