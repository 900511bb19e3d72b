use Rattle.std.proofs.Common.{◌≡◌, [], length, All}
use Rattle.thread_cct.proofs.ccts.Ccts.keyed.Given as goal

abbrev pub invariant-loop : goal.invariant-loop
invariant-loop l = (length l.tables.items ≡ l.counter) × All (λ table. table ≡ []) l.tables.items
