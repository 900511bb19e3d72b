-- The plan that a table starts with is within its limits.
use Rattle.std.proofs.Common.{◌≡◌, ℕ, zero, suc, ◌+◌, ◌*◌, ◌≤◌, List, [], ◌∷◌, length, map, drop, refl, ap, ◌∙◌, subst, arith}
use Rattle.std.specs.List.{sum_by, range_with_len}
use Rattle.std.proofs.lemmas.List.Sums.{sum_by-cons, sum_by-take-drop}
use Rattle.std.proofs.lemmas.List.FromFn.{length-map-range_with_len, sum_by-map-range_with_len_more}
use Rattle.std.proofs.Common.{add-one}
use lib.Seq.{drop-drop}
use Rattle.scope_types.specs.declared.path.Entry.{Entry}
use Rattle.scope_types.specs.declared.scope.Scope.{Scope}
use Rattle.scope_types.specs.Raw.{Raw}
use Rattle.scope_types.specs.Limits.{most_samples}
use Rattle.thread_cct.specs.Plan.{Planned, PlannedPath, FitsExpansion, chunk_of, chunks_in, expanded, expanded_path, expanded_paths, most_chunks}
use Rattle.stripe_table.specs.Limits.{IsLimited}

-- the chunks so far and the rest are no more than all
chunk_sums : (g : Entry → ℕ) (xs : List Entry) (n : ℕ) → sum_by (sum_by g) (map (chunk_of xs) (range_with_len 0 n)) + sum_by g (drop (64 * n) xs) ≤ sum_by g xs
chunk_sums g xs zero = let z : sum_by (sum_by g) (map (chunk_of xs) (range_with_len 0 0)) ≡ 0 = refl in let y : drop (64 * 0) xs ≡ xs = refl in let d = ap (sum_by g) y in omega arith
chunk_sums g xs (suc n) = subst (λ (m : ℕ). sum_by (sum_by g) (map (chunk_of xs) (range_with_len 0 m)) + sum_by g (drop (64 * m) xs) ≤ sum_by g xs) (add-one n) (step (chunk_sums g xs n))
  where
    step : sum_by (sum_by g) (map (chunk_of xs) (range_with_len 0 n)) + sum_by g (drop (64 * n) xs) ≤ sum_by g xs
        → sum_by (sum_by g) (map (chunk_of xs) (range_with_len 0 (n + 1))) + sum_by g (drop (64 * (n + 1)) xs) ≤ sum_by g xs
    step r = let c = sum_by-map-range_with_len_more (sum_by g) (chunk_of xs) 0 n n (omega arith) in let t = sum_by-take-drop g (drop (64 * n) xs) 64 in
        let i : 64 * n + 64 ≡ 64 * (n + 1) = omega arith in let d : drop 64 (drop (64 * n) xs) ≡ drop (64 * (n + 1)) xs = drop-drop 64 (64 * n) xs ∙ ap (λ (k : ℕ). drop k xs) i in let e = ap (sum_by g) d in omega arith

path_sums : (g : Entry → ℕ) (f : PlannedPath → Entry) (ps : List PlannedPath) → sum_by g (map f ps) ≡ sum_by (λ p. g (f p)) ps
path_sums g f [] = refl
path_sums g f (p ∷ ps) = let a = sum_by-cons g (f p) (map f ps) in let b = sum_by-cons (λ p. g (f p)) p ps in let r = path_sums g f ps in omega arith

pub limited : (plan : Planned) (m : Raw → List Scope) → chunks_in plan ≤ most_chunks → sum_by (λ p. p.count) plan.paths ≤ most_samples → FitsExpansion plan m → IsLimited (expanded plan m)
unfolding expanded
limited plan m few counts fits = let xs = expanded_paths m plan in record {
  chunks = let l = length-map-range_with_len (chunk_of xs) 0 (chunks_in plan) in omega arith;
  samples = let a = chunk_sums (λ e. e.count) xs (chunks_in plan) in let b = path_sums (λ e. e.count) (expanded_path m) plan.paths in omega arith;
  scopes = let a = chunk_sums (λ e. length e.path) xs (chunks_in plan) in let b = path_sums (λ e. length e.path) (expanded_path m) plan.paths in let c = fits.few in omega arith;
}

pub as_many : (plan : Planned) (m : Raw → List Scope) → length (expanded plan m) ≡ chunks_in plan
unfolding expanded
as_many plan m = length-map-range_with_len (chunk_of (expanded_paths m plan)) 0 (chunks_in plan)
