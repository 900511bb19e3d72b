-- The entries of an expanded plan count samples.
use Rattle.std.proofs.Common.{◌≡◌, ℕ, ◌+◌, ◌<◌, List, [], ◌∷◌, length, map, get_or, All, subst}
use Rattle.std.specs.List.{range_with_len}
use Rattle.std.proofs.lemmas.List.Elements.{All-append, All-drop, All-head, All-map, All-nil, All-tail, All-take}
use Rattle.scope_types.specs.declared.scope.Scope.{Scope}
use Rattle.scope_types.specs.Raw.{Raw}
use Rattle.thread_cct.specs.Plan.{PlannedPath, Planned, plan_of, chunks_in, chunk_of, expanded, expanded_path, expanded_paths, CountsSamples, IsMergeable}
use Rattle.thread_cct.proofs.Located.{Tables, paths_from, planned}
use Rattle.thread_cct.proofs.Paths.{HasCount}

abbrev IsPlanned : PlannedPath → Type 0
IsPlanned p = 0 < p.count

tables_counted : (first : ℕ) (tables : Tables) → All (All HasCount) tables → All IsPlanned (paths_from first tables)
tables_counted first [] all = All-nil IsPlanned
tables_counted first (t ∷ tables) all =
    All-append IsPlanned (map (planned first) t) (paths_from (first + 1) tables)
    (All-map IsPlanned (planned first) t (All-head (All HasCount) t tables all)) (tables_counted (first + 1) tables (All-tail (All HasCount) t tables all))

pub counted_planned : (tables : Tables) (now : Planned) → plan_of tables ≡ now → All (All HasCount) tables → All (λ p. 0 < p.count) now.paths
counted_planned tables now view all = subst (λ (p : Planned). All IsPlanned p.paths) view (tables_counted 0 tables all)

module _ (plan : Planned) (call_path : Raw → List Scope) (columns : ℕ) (some : All (λ p. 0 < p.count) plan.paths) (below : All (λ p. p.column < columns) plan.paths) (roots : (raw : Raw) → 0 < length (call_path raw)) where
  each : All (CountsSamples columns) (expanded_paths call_path plan)
  each = All-map (CountsSamples columns) (expanded_path call_path) plan.paths
      (λ i d lt. record { some = some i d lt; path = roots (get_or plan.paths i d).path; column = below i d lt })

  chunk_counts : (chunk : ℕ) → All (CountsSamples columns) (chunk_of (expanded_paths call_path plan) chunk)
  chunk_counts chunk = All-take (CountsSamples columns) 64 _ (All-drop (CountsSamples columns) _ (expanded_paths call_path plan) each)

  pub plan_mergeable : IsMergeable (expanded plan call_path) columns
  unfolding expanded
  plan_mergeable = record {
    entries = All-map (All (CountsSamples columns)) (chunk_of (expanded_paths call_path plan)) (range_with_len 0 (chunks_in plan)) (λ i d lt. chunk_counts (get_or (range_with_len 0 (chunks_in plan)) i d));
  }
