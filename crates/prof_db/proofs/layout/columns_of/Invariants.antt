use Rattle.std.proofs.Common.{◌≡◌, ◌-◌, ◌^◌, take, sum}
use Rattle.std.specs.Prelude.{min}
use Rattle.prof_db.proofs.layout.columns_of.Given as goal

abbrev pub invariant-loop-run : goal.invariant-loop-run
invariant-loop-run l = l.harts ≡ min (sum (take l.run-index l.runs)) (2 ^ 64 - 1)
