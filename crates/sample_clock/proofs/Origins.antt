-- Of which instructions samples are.
use Rattle.std.proofs.Common.{ℕ, ◌<◌, List, [], ◌∷◌, ◌++◌, length, filter, All, refl, sym, subst, arith}
use Rattle.std.specs.Prelude.{flat_map, Contains}
use Rattle.std.specs.List.{enumerate_from}
use Rattle.std.proofs.lemmas.List.Elements.{All-append, All-contains_itself, All-filter, All-head, All-map, All-nil, All-tail}
use Rattle.std.proofs.lemmas.List.FromFn.{get_or-enumerate_from, length-enumerate_from}
use Rattle.scope_types.specs.declared.event.EventPeriod.{EventPeriod}
use Rattle.rv_run.specs.Run.{Instant}
use Rattle.sample_clock.specs.Samples.{Earlier, IsSampleOf, Paths, Placed, is_sampled, none_earlier, placed, sample_of, sampled_places, samples, samples_at}

module _ (path_of : Paths) (earlier : Earlier) (events : List EventPeriod) where
  places-within : (p : Placed) → All (λ place. place < length events) (sampled_places earlier events p)
  places-within p =
      All-map (λ (place : ℕ). place < length events) (λ (e : ℕ × EventPeriod). e.0) (filter (λ (e : ℕ × EventPeriod). is_sampled earlier p e.1) (enumerate_from 0 events))
      (All-filter (λ (e : ℕ × EventPeriod). is_sampled earlier p e.1) (λ (e : ℕ × EventPeriod). e.0 < length events) (enumerate_from 0 events)
      (λ k d few.
      let long = length-enumerate_from 0 events in
      subst (λ (e : ℕ × EventPeriod). e.0 < length events) (sym (get_or-enumerate_from 0 events k d (omega arith))) (omega arith)))

  of-one : (instants : List Instant) (p : Placed) → Contains instants p.instant → All (IsSampleOf path_of events instants) (samples_at path_of earlier events p)
  of-one instants p own =
      All-map (IsSampleOf path_of events instants) (sample_of path_of p.instant) (sampled_places earlier events p)
      (λ k d few. record { instant = p.instant; own = own; is = refl; event = places-within p k d few })

  of-all : (instants before xs : List Instant) → All (Contains instants) xs → All (IsSampleOf path_of events instants) (flat_map (samples_at path_of earlier events) (placed before xs))
  unfolding placed
  of-all instants before [] own = All-nil (IsSampleOf path_of events instants)
  of-all instants before (i ∷ xs) own =
      All-append (IsSampleOf path_of events instants) (samples_at path_of earlier events (record { before = before; instant = i })) (flat_map (samples_at path_of earlier events) (placed (before ++ i ∷ []) xs))
      (of-one instants (record { before = before; instant = i }) (All-head (Contains instants) i xs own))
      (of-all instants (before ++ i ∷ []) xs (All-tail (Contains instants) i xs own))

pub samples-own : (path_of : Paths) (events : List EventPeriod) (instants : List Instant) → All (IsSampleOf path_of events instants) (samples path_of events instants)
samples-own path_of events instants = of-all path_of none_earlier events instants [] instants (All-contains_itself instants)
