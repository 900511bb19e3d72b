-- The runs of a profile are few, and so are their harts and columns.
use Rattle.std.proofs.Common.{ℕ, ◌*◌, ◌^◌, ◌<◌, ◌≤◌, List, [], ◌∷◌, length, sum, All, Fits, w32, rules, arith}
use Rattle.std.proofs.lemmas.Nat.{mul-le}
use Rattle.std.proofs.lemmas.List.Elements.{All-cons, All-head, All-nil, All-tail}
use Rattle.std.proofs.lemmas.List.Sums.{sum_by-cons}
use Rattle.scope_types.specs.declared.event.EventPeriod.{EventPeriod}
use Rattle.scope_types.specs.Columns.{columns_of}
use Rattle.scope_types.specs.Events.{AreEvents}
use Rattle.scope_types.specs.Limits.{most_harts}
use Rattle.run_report.proofs.FewEvents.{few_events}
use Rattle.run_profile.specs.Merging.{AreRuns}

-- one run is as runs may be
pub one_of_runs : (harts : ℕ) → 0 < harts → harts ≤ most_harts → AreRuns (harts ∷ [])
one_of_runs harts some few = record {
  some = omega arith;
  few = omega arith;
  harts = All-cons (λ (h : ℕ). (0 < h) × (h ≤ most_harts)) harts [] (some, few) (All-nil (λ (h : ℕ). (0 < h) × (h ≤ most_harts)));
}

-- the harts of several runs are few enough that each column has a number
pub harts_few : (runs : List ℕ) → All (λ h. (0 < h) × (h ≤ most_harts)) runs → sum runs ≤ length runs * 64
harts_few [] all = omega arith
harts_few (h ∷ runs) all =
    let first = (All-head (λ (h : ℕ). (0 < h) × (h ≤ most_harts)) h runs all).1 in
    let rest = harts_few runs (All-tail (λ (h : ℕ). (0 < h) × (h ≤ most_harts)) h runs all) in
    let whole = sum_by-cons (λ (n : ℕ). n) h runs in
    omega (arith, first, rest, whole)

pub runs_columns : (events : List EventPeriod) (runs : List ℕ) → AreEvents events → AreRuns runs → columns_of (length events) runs < 2 ^ 32
runs_columns events runs are of =
    let few = of.few in
    let harts = harts_few runs of.harts in
    let most : sum runs * length events ≤ 1024 * 4 = mul-le (sum runs) (length events) 1024 4 (omega (arith, few, harts)) (few_events events are) in
    omega (arith, most)

-- a number of 32 bits
pub word_fits : (n : ℕ) → n < 2 ^ 32 → Fits w32 n
word_fits n less = search rules
