-- Lists of which some elements are left out: the numbers of those that are kept, and what is made of each.
use Rattle.std.proofs.Common.{◌≡◌, ℕ, zero, suc, ◌+◌, ◌<◌, ◌==◌, not, Bool, true, false, cond, List, [], ◌∷◌, ◌++◌, length, get_or, take, map, filter, refl, sym, ap, ◌∙◌, arith}
use Rattle.std.specs.List.{enumerate_from, flat_map, range_with_len}
use Rattle.std.proofs.lemmas.Bool.{eq-eqb, ne_eqb}
use Rattle.std.proofs.lemmas.List.{map-append}
use Rattle.tree_types.proofs.Counting.{one}

module _ {X : Type 0} (t : X → Bool) where
  -- the number of an element among those that are kept
  abbrev pub kept_before : List X → ℕ → ℕ
  kept_before xs i = length (filter t (take i xs))

  pub kept_at : (xs : List X) (i : ℕ) (d : X) → i < length xs → t (get_or xs i d) ≡ true
      → (kept_before xs i < length (filter t xs)) × (get_or (filter t xs) (kept_before xs i) d ≡ get_or xs i d)
  kept_at [] i d lt is = absurd (omega arith)
  kept_at (x ∷ xs) zero d lt is =
      let all : filter t (x ∷ xs) ≡ x ∷ filter t xs = ap (λ b. cond b (x ∷ filter t xs) (filter t xs)) is in
      let long = ap length all in (omega (arith, long), ap (λ (l : List X). get_or l 0 d) all)
  kept_at (x ∷ xs) (suc i) d lt is =
      let rest = kept_at xs i d (omega arith) is in
      elim (t x) as (λ b. (length (cond b (x ∷ filter t (take i xs)) (filter t (take i xs))) < length (cond b (x ∷ filter t xs) (filter t xs)))
      × (get_or (cond b (x ∷ filter t xs) (filter t xs)) (length (cond b (x ∷ filter t (take i xs)) (filter t (take i xs)))) d ≡ get_or xs i d)) [
        | true ↦ ((let less = rest.0 in omega (arith, less)), rest.1)
        | false ↦ rest
      ]

  pub kept_more : (xs : List X) (i : ℕ) (d : X) → i < length xs → kept_before xs (i + 1) ≡ kept_before xs i + one (t (get_or xs i d))
  kept_more [] i d lt = absurd (omega arith)
  kept_more (x ∷ xs) zero d lt = first (t x)
    where
      first : (b : Bool) → length (cond b (x ∷ []) []) ≡ 0 + one b
      first true = refl
      first false = refl
  kept_more (x ∷ xs) (suc i) d lt =
      let rest = kept_more xs i d (omega arith) in
      let next : suc i + 1 ≡ suc (i + 1) = omega arith in
      ap (λ (k : ℕ). length (filter t (take k (x ∷ xs)))) next
      ∙ elim (t x) as (λ b. length (cond b (x ∷ filter t (take (i + 1) xs)) (filter t (take (i + 1) xs))) ≡ length (cond b (x ∷ filter t (take i xs)) (filter t (take i xs))) + one (t (get_or xs i d))) [
        | true ↦ omega (arith, rest)
        | false ↦ rest
      ]

  -- an element is left out where the next one has its number
  pub left_out : (xs : List X) (i : ℕ) (d : X) → i < length xs → (kept_before xs i == kept_before xs (i + 1)) ≡ not (t (get_or xs i d))
  left_out xs i d lt =
      let more = kept_more xs i d lt in
      elim (t (get_or xs i d)) as (λ b. t (get_or xs i d) ≡ b → (kept_before xs i == kept_before xs (i + 1)) ≡ not b) [
        | true ↦ λ e. (let one_more = more ∙ ap (λ b. kept_before xs i + one b) e in ne_eqb (kept_before xs i) (kept_before xs (i + 1)) (λ same. absurd (omega (arith, one_more, same))))
        | false ↦ λ e. (let as_many = more ∙ ap (λ b. kept_before xs i + one b) e in eq-eqb (kept_before xs i) (kept_before xs (i + 1)) (omega (arith, as_many)))
      ] refl

  -- what is made of each that is kept, by the numbers of all
  pub made_by_number : {Y : Type 0} (f : ℕ → List Y) (g : X → Y) (xs : List X) (a : ℕ) (d : X)
      → ((k : ℕ) → k < length xs → f (a + k) ≡ cond (t (get_or xs k d)) (g (get_or xs k d) ∷ []) [])
      → flat_map f (range_with_len a (length xs)) ≡ map g (filter t xs)
  made_by_number f g [] a d each = refl
  made_by_number {Y} f g (x ∷ xs) a d each =
      let here : f a ≡ cond (t x) (g x ∷ []) [] = (let z : a ≡ a + 0 = omega arith in ap f z) ∙ each 0 (omega arith) in
      let rest = made_by_number f g xs (a + 1) d (λ k lt. (let next : (a + 1) + k ≡ a + suc k = omega arith in ap f next) ∙ each (suc k) (omega arith)) in
      (λ i. here i ++ rest i)
      ∙ elim (t x) as (λ b. cond b (g x ∷ []) [] ++ map g (filter t xs) ≡ map g (cond b (x ∷ filter t xs) (filter t xs))) [
        | true ↦ refl
        | false ↦ refl
      ]

  -- lists that are made of numbered elements, where the elements that are kept are numbered anew
  pub numbered_anew : {Y : Type 0} (to : Y → Y) (f g : ℕ × X → List Y) (rank : ℕ → ℕ) (xs : List X) (a : ℕ) (d : X)
      → ((k : ℕ) → k < length xs → t (get_or xs k d) ≡ true → map to (f (a + k, get_or xs k d)) ≡ g (rank (a + k), get_or xs k d))
      → ((k : ℕ) → k < length xs → t (get_or xs k d) ≡ false → f (a + k, get_or xs k d) ≡ [])
      → ((k : ℕ) → k < length xs → rank (a + k + 1) ≡ rank (a + k) + one (t (get_or xs k d)))
      → map to (flat_map f (enumerate_from a xs)) ≡ flat_map g (enumerate_from (rank a) (filter t xs))
  numbered_anew to f g rank [] a d kept left ranked = refl
  numbered_anew {Y} to f g rank (x ∷ xs) a d kept left ranked =
      let start : a + 0 ≡ a = omega arith in
      let next : (k : ℕ) → (a + 1) + k ≡ a + suc k = λ k. omega arith in
      let rest = numbered_anew to f g rank xs (a + 1) d
      (λ k lt is. ap (λ (j : ℕ). map to (f (j, get_or xs k d))) (next k) ∙ kept (suc k) (omega arith) is ∙ ap (λ (j : ℕ). g (rank j, get_or xs k d)) (sym (next k)))
      (λ k lt is. ap (λ (j : ℕ). f (j, get_or xs k d)) (next k) ∙ left (suc k) (omega arith) is)
      (λ k lt. ap (λ (j : ℕ). rank (j + 1)) (next k) ∙ ranked (suc k) (omega arith) ∙ ap (λ (j : ℕ). rank j + one (t (get_or xs k d))) (sym (next k))) in
      let rank_is : rank (a + 1) ≡ rank a + one (t x) = ap (λ (j : ℕ). rank (j + 1)) (sym start) ∙ ranked 0 (omega arith) ∙ ap (λ (j : ℕ). rank j + one (t x)) start in
      map-append to (f (a, x)) (flat_map f (enumerate_from (a + 1) xs))
      ∙ ap (λ (l : List Y). map to (f (a, x)) ++ l) (rest ∙ ap (λ (j : ℕ). flat_map g (enumerate_from j (filter t xs))) rank_is)
      ∙ elim (t x) as (λ b. t x ≡ b → map to (f (a, x)) ++ flat_map g (enumerate_from (rank a + one b) (filter t xs)) ≡ flat_map g (enumerate_from (rank a) (cond b (x ∷ filter t xs) (filter t xs)))) [
        | true ↦ λ e.
            ap (λ (l : List Y). l ++ flat_map g (enumerate_from (rank a + 1) (filter t xs)))
            (ap (λ (j : ℕ). map to (f (j, x))) (sym start) ∙ kept 0 (omega arith) e ∙ ap (λ (j : ℕ). g (rank j, x)) start)
        | false ↦ λ e.
            (λ i. map to ((ap (λ (j : ℕ). f (j, x)) (sym start) ∙ left 0 (omega arith) e) i) ++ flat_map g (enumerate_from ((let z : rank a + 0 ≡ rank a = omega arith in z) i) (filter t xs)))
      ] refl
