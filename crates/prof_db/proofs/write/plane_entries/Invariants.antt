use Rattle.std.proofs.Common.{◌≡◌, ◌-◌, ◌^◌, length, take}
use Rattle.std.specs.Prelude.{min, sum_by}
use Rattle.prof_db.proofs.write.plane_entries.Given as goal

abbrev pub invariant-loop-column : goal.invariant-loop-column
invariant-loop-column l = l.count ≡ min (sum_by (λ entries. length entries) (take l.column l.plane)) (2 ^ 64 - 1)
