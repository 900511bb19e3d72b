-- Samples of one hart and one event are of one column.
use Rattle.std.proofs.Common.{◌≡◌, ℕ, ◌*◌, ◌+◌, ◌<◌, List, length, map, All, sym, ap, subst, ◌∙◌, arith}
use Rattle.std.proofs.lemmas.List.Elements.{All-contains, All-map, All-weaker}
use Rattle.rv_run.specs.Run.{Instant}
use Rattle.sample_clock.specs.declared.clock.Sample.{Sample}
use Rattle.sample_clock.specs.Clock.{Sampling, samples_to_come}
use Rattle.sample_clock.specs.Samples.{IsSampleOf, Paths, samples}
use Rattle.scope_types.specs.declared.event.EventPeriod.{EventPeriod}
use Rattle.scope_types.specs.Distinct.{ColumnRaw}
use Rattle.live_merge.specs.Live.{coming, raw_of}

-- what sample_clock's law says
abbrev pub OfInstructions : Type 0
OfInstructions = (path_of : Paths) (events : List EventPeriod) (instants : List Instant) → All (IsSampleOf path_of events instants) (samples path_of events instants)

below : (n : ℕ) (path_of : Paths) (events : List EventPeriod) (instants : List Instant) → n ≡ 1 → length events ≡ 1 → All (λ i. i.moment.hart < 1) instants → (s : Sample) → IsSampleOf path_of events instants s → s.hart * n + s.event < 1
below n path_of events instants one events_one own s is =
    let hart_is : s.hart ≡ is.instant.moment.hart = ap (λ (x : Sample). x.hart) is.is in
    let hart : is.instant.moment.hart < 1 = All-contains (λ (i : Instant). i.moment.hart < 1) instants is.instant own is.own in
    let event : s.event < length events = is.event in
    subst (λ (m : ℕ). s.hart * m + s.event < 1) (sym one) (omega (arith, hart_is, hart, event, events_one))

pub own_of_one : OfInstructions → (path_of : Paths) (events : List EventPeriod) (instants : List Instant) (s : Sampling) → length events ≡ 1 → s.events ≡ events → samples_to_come path_of s ≡ samples path_of events instants → All (λ i. i.moment.hart < 1) instants
    → All (λ r. r.column < 1) (coming path_of s)
own_of_one each path_of events instants s one same come own =
    let P : ColumnRaw → Type 0 = λ r. r.column < 1 in
    let n_is : length s.events ≡ 1 = ap (λ (es : List EventPeriod). length es) same ∙ one in
    subst (λ (l : List Sample). All P (map (raw_of (length s.events)) l)) (sym come)
    (All-map P (raw_of (length s.events)) (samples path_of events instants)
    (All-weaker (IsSampleOf path_of events instants) (λ (q : Sample). P (raw_of (length s.events) q))
    (below (length s.events) path_of events instants n_is one own) (samples path_of events instants) (each path_of events instants)))
