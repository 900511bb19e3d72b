-- Distinct raw paths have no fewer scopes and frames where there are more samples, before them or after.
use Rattle.std.proofs.Common.{◌≡◌, ℕ, ◌+◌, ◌≤◌, ◌==◌, ◌&&◌, not, Bool, true, false, cond, List, [], ◌∷◌, ◌++◌, length, map, filter, count_by, sum_by, refl, sym, ap, subst, ◌∙◌, arith}
use Rattle.std.specs.List.{range_with_len}
use Rattle.std.proofs.lemmas.List.{map-append}
use Rattle.std.proofs.lemmas.List.Elements.{filter-append}
use Rattle.std.proofs.lemmas.List.Sums.{sum_by-cons}
use Rattle.scope_types.specs.Distinct.{ColumnRaw, counted_paths, distinct, frames_in, raws_of, scopes_in}
use Rattle.scope_types.specs.Raw.{Raw, same_raw}
use Rattle.scope_types.specs.declared.frame.Counted.{Counted}
use Rattle.scope_types.specs.declared.scope.Scope.{Scope}
use Rattle.scope_types.specs.private.SameRaw.{raw_decides}

module _ (w : Raw → ℕ) where
  abbrev one_weight : (Raw → Bool) → Counted → ℕ
  one_weight t c = cond (t c.path) (w c.path) 0

  -- what the counted paths that pass weigh together
  abbrev weight : (Raw → Bool) → List Counted → ℕ
  weight t cs = sum_by (one_weight t) cs

  same_weight : (s t : Raw → Bool) → ((r : Raw) → s r ≡ t r) → (cs : List Counted) → weight s cs ≡ weight t cs
  same_weight s t same [] = refl
  same_weight s t same (c ∷ cs) =
      let a = sum_by-cons (one_weight s) c cs in
      let b = sum_by-cons (one_weight t) c cs in
      let own = ap (λ (x : Bool). cond x (w c.path) 0) (same c.path) in
      let rest = same_weight s t same cs in
      omega arith

  filtered : (s t : Raw → Bool) (cs : List Counted) → weight t (filter (λ c. s c.path) cs) ≡ weight (λ r. s r && t r) cs
  filtered s t [] = refl
  filtered s t (c ∷ cs) =
      let rest = filtered s t cs in
      (elim (s c.path) as (λ b. weight t (cond b (c ∷ filter (λ c. s c.path) cs) (filter (λ c. s c.path) cs)) ≡ cond (b && t c.path) (w c.path) 0 + weight (λ r. s r && t r) cs) [
        | true ↦ sum_by-cons (one_weight t) c (filter (λ c. s c.path) cs) ∙ ap (λ (n : ℕ). cond (t c.path) (w c.path) 0 + n) rest
        | false ↦ rest ∙ (omega arith)
      ]) ∙ sym (sum_by-cons (one_weight (λ r. s r && t r)) c cs)

  -- the first path, and the others that are not it
  abbrev others : Raw → (Raw → Bool) → Raw → Bool
  others x t r = not (same_raw x r) && t r

  first_weight : (t : Raw → Bool) (x : Raw) (xs : List Raw) → weight t (counted_paths (x ∷ xs)) ≡ cond (t x) (w x) 0 + weight (others x t) (counted_paths xs)
  first_weight t x xs = sum_by-cons (one_weight t) (record { path = x; count = 1 + count_by (same_raw x) xs }) (filter (λ c. not (same_raw x c.path)) (counted_paths xs)) ∙ ap (λ (n : ℕ). cond (t x) (w x) 0 + n) (filtered (λ r. not (same_raw x r)) t (counted_paths xs))

  grow_back : (t : Raw → Bool) (xs ys : List Raw) → weight t (counted_paths xs) ≤ weight t (counted_paths (xs ++ ys))
  grow_back t [] ys = omega arith
  grow_back t (x ∷ xs) ys =
      let a = first_weight t x xs in
      let b = first_weight t x (xs ++ ys) in
      let rest = grow_back (others x t) xs ys in
      omega arith

  less_and : (a b : Bool) (n : ℕ) → cond (a && b) n 0 ≤ cond b n 0
  less_and true b n = omega arith
  less_and false b n = omega arith

  -- a path weighs no less than what it takes away, since it is there once
  once : (t : Raw → Bool) (y : Raw) (xs : List Raw) → weight t (counted_paths xs) ≤ cond (t y) (w y) 0 + weight (others y t) (counted_paths xs)
  once t y [] = omega arith
  once t y (x ∷ xs) =
      let a = first_weight t x xs in
      let b = first_weight (others y t) x xs in
      elim (same_raw y x) as (λ s. same_raw y x ≡ s → weight t (counted_paths (x ∷ xs)) ≤ cond (t y) (w y) 0 + weight (others y t) (counted_paths (x ∷ xs))) [
        | true ↦ λ e.
            let is : y ≡ x = (raw_decides y x).0 e in
            let own : cond (t y) (w y) 0 ≡ cond (t x) (w x) 0 = ap (λ (r : Raw). cond (t r) (w r) 0) is in
            let all : weight (others x (others y t)) (counted_paths xs) ≡ weight (others x t) (counted_paths xs) =
            subst (λ (z : Raw). weight (others x (others z t)) (counted_paths xs) ≡ weight (others x t) (counted_paths xs)) (sym is)
            (same_weight (others x (others x t)) (others x t) (λ r. again (not (same_raw x r)) (t r)) (counted_paths xs)) in
            omega arith
        | false ↦ λ e.
            let rest = once (others x t) y xs in
            let own = less_and (not (same_raw x y)) (t y) (w y) in
            let here : cond (others y t x) (w x) 0 ≡ cond (t x) (w x) 0 = ap (λ (s : Bool). cond (not s && t x) (w x) 0) e in
            let swap : weight (others y (others x t)) (counted_paths xs) ≡ weight (others x (others y t)) (counted_paths xs) =
            same_weight (others y (others x t)) (others x (others y t)) (λ r. turn (not (same_raw y r)) (not (same_raw x r)) (t r)) (counted_paths xs) in
            omega arith
      ] refl
    where
      again : (a b : Bool) → (a && (a && b)) ≡ (a && b)
      again true b = refl
      again false b = refl

      turn : (a b c : Bool) → (a && (b && c)) ≡ (b && (a && c))
      turn true true c = refl
      turn true false c = refl
      turn false true c = refl
      turn false false c = refl

  grow_front : (t : Raw → Bool) (ys xs : List Raw) → weight t (counted_paths xs) ≤ weight t (counted_paths (ys ++ xs))
  grow_front t [] xs = omega arith
  grow_front t (y ∷ ys) xs =
      let rest = grow_front t ys xs in
      let more = once t y (ys ++ xs) in
      let all = first_weight t y (ys ++ xs) in
      omega arith

  pub grow_both : (ys xs zs : List Raw) → weight (λ r. true) (counted_paths xs) ≤ weight (λ r. true) (counted_paths (ys ++ (xs ++ zs)))
  grow_both ys xs zs =
      let back = grow_back (λ r. true) xs zs in
      let front = grow_front (λ r. true) ys (xs ++ zs) in
      omega arith

raws_both : (xs ys : List ColumnRaw) (column : ℕ) → raws_of (xs ++ ys) column ≡ raws_of xs column ++ raws_of ys column
raws_both xs ys column =
    ap (map (λ s. s.raw)) (filter-append (λ (s : ColumnRaw). s.column == column) xs ys)
    ∙ map-append (λ s. s.raw) (filter (λ (s : ColumnRaw). s.column == column) xs) (filter (λ (s : ColumnRaw). s.column == column) ys)

columns_grow : (W : List Counted → ℕ) (f g : ℕ → List Counted) → ((k : ℕ) → W (f k) ≤ W (g k)) → (ks : List ℕ) → sum_by W (map f ks) ≤ sum_by W (map g ks)
columns_grow W f g each [] = omega arith
columns_grow W f g each (k ∷ ks) =
    (let rest = columns_grow W f g each ks in let a = sum_by-cons W (f k) (map f ks) in let b = sum_by-cons W (g k) (map g ks) in let own = each k in omega arith)

-- distinct raw paths of samples weigh no more than those of all samples of which they are a part
weights_grow : (w : Raw → ℕ) (columns : ℕ) (ys xs zs : List ColumnRaw) → sum_by (sum_by (λ c. w c.path)) (distinct columns xs) ≤ sum_by (sum_by (λ c. w c.path)) (distinct columns (ys ++ (xs ++ zs)))
unfolding distinct
weights_grow w columns ys xs zs =
    columns_grow (sum_by (λ c. w c.path)) (λ k. counted_paths (raws_of xs k)) (λ k. counted_paths (raws_of (ys ++ (xs ++ zs)) k))
    (λ k.
    subst (λ (l : List Raw). sum_by (λ c. w c.path) (counted_paths (raws_of xs k)) ≤ sum_by (λ c. w c.path) (counted_paths l))
    (sym (raws_both ys (xs ++ zs) k ∙ ap (λ (l : List Raw). raws_of ys k ++ l) (raws_both xs zs k)))
    (grow_both w (raws_of ys k) (raws_of xs k) (raws_of zs k)))
    (range_with_len 0 columns)

-- so they have no more scopes
pub scopes_grow : (call_path : Raw → List Scope) (columns : ℕ) (ys xs zs : List ColumnRaw) → scopes_in call_path (distinct columns xs) ≤ scopes_in call_path (distinct columns (ys ++ (xs ++ zs)))
scopes_grow call_path columns ys xs zs = weights_grow (λ r. length (call_path r)) columns ys xs zs

-- and no more frames
pub frames_grow : (columns : ℕ) (ys xs zs : List ColumnRaw) → frames_in (distinct columns xs) ≤ frames_in (distinct columns (ys ++ (xs ++ zs)))
frames_grow columns ys xs zs = weights_grow (λ r. length r.frames) columns ys xs zs
