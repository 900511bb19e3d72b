-- The columns of a run are those of one run, and few.
use Rattle.std.proofs.Common.{◌≡◌, ℕ, ◌*◌, ◌^◌, ◌<◌, ◌≤◌, List, [], ◌∷◌, length, sum, ap, arith}
use Rattle.std.proofs.lemmas.Nat.{mul-le}
use Rattle.run_report.proofs.FewEvents.{few_events}
use Rattle.scope_types.specs.declared.event.EventPeriod.{EventPeriod}
use Rattle.scope_types.specs.Columns.{columns_of}
use Rattle.scope_types.specs.Events.{AreEvents}
use Rattle.scope_types.specs.Limits.{most_harts}
use Rattle.program_run.specs.Samples.{run_columns}

one_run : (harts : ℕ) → sum (harts ∷ []) ≡ harts
one_run harts = omega arith

pub own_columns : (events : List EventPeriod) (harts : ℕ) → columns_of (length events) (harts ∷ []) ≡ run_columns events harts
own_columns events harts = ap (λ (n : ℕ). n * length events) (one_run harts)

pub few_columns : (events : List EventPeriod) (harts : ℕ) → AreEvents events → harts ≤ most_harts → run_columns events harts < 2 ^ 32
few_columns events harts are few = (let most : harts * length events ≤ 64 * 4 = mul-le harts (length events) 64 4 few (few_events events are) in omega (arith, most))
