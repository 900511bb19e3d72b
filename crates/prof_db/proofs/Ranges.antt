-- The numbers from one up to another, in parts; and those of them that pass a test.
use Rattle.std.proofs.Common.{◌≡◌, ℕ, zero, suc, ◌+◌, ◌-◌, ◌*◌, ◌%◌, ◌<◌, ◌≤◌, ◌==◌, Bool, true, false, cond, List, [], ◌∷◌, ◌++◌, map, filter, refl, sym, ap, ◌∙◌, arith, append-nil, inl, inr}
use Rattle.std.specs.Prelude.{◌≢◌}
use Rattle.std.specs.List.{flat_map, range_with_len}
use Rattle.std.proofs.Math.Nat.{suc-mul}
use Rattle.std.proofs.lemmas.Bool.{cases_eq, eq-eqb, ne_eqb}
use Rattle.std.proofs.lemmas.List.Concat.{flat_map-append}
use Rattle.std.proofs.lemmas.List.Elements.{filter-append}
use Rattle.std.proofs.lemmas.List.FromFn.{map-range_with_len_more}
use Rattle.std.proofs.lemmas.Nat.{mod-mul-add}

pub range_parts : (a m n : ℕ) → range_with_len a (m + n) ≡ range_with_len a m ++ range_with_len (a + m) n
range_parts a zero n =
    let same : 0 + n ≡ n = omega arith in
    let start : a ≡ a + 0 = omega arith in
    λ i. range_with_len (start i) (same i)
range_parts a (suc m) n =
    let longer : suc m + n ≡ suc (m + n) = omega arith in
    let further : (a + 1) + m ≡ a + suc m = omega arith in
    ap (range_with_len a) longer
    ∙ ap (λ (l : List ℕ). a ∷ l) (range_parts (a + 1) m n ∙ ap (λ (k : ℕ). range_with_len (a + 1) m ++ range_with_len k n) further)

pub flat_map_more : {Y : Type 0} (f : ℕ → List Y) (i : ℕ) → flat_map f (range_with_len 0 (i + 1)) ≡ flat_map f (range_with_len 0 i) ++ f i
flat_map_more {Y} f i =
    let start : 0 + i ≡ i = omega arith in
    ap (flat_map f) (range_parts 0 i 1) ∙ flat_map-append f (range_with_len 0 i) (range_with_len (0 + i) 1)
    ∙ ap (λ (k : ℕ). flat_map f (range_with_len 0 i) ++ (f k ++ [])) start ∙ ap (λ (l : List Y). flat_map f (range_with_len 0 i) ++ l) (append-nil (f i))

module _ (t : ℕ → Bool) where
  none_pass : (a n : ℕ) → ((k : ℕ) → a ≤ k → k < a + n → t k ≡ false) → filter t (range_with_len a n) ≡ []
  none_pass a zero fails = refl
  none_pass a (suc n) fails =
      ap (λ b. cond b (a ∷ filter t (range_with_len (a + 1) n)) (filter t (range_with_len (a + 1) n))) (fails a (omega arith) (omega arith))
      ∙ none_pass (a + 1) n (λ k le lt. fails k (omega arith) (omega arith))

  one_passes : (a n x : ℕ) → a ≤ x → x < a + n → t x ≡ true → ((k : ℕ) → a ≤ k → k < a + n → k ≢ x → t k ≡ false) → filter t (range_with_len a n) ≡ x ∷ []
  one_passes a zero x le lt here others = absurd (omega arith)
  one_passes a (suc n) x le lt here others = elim (cases_eq a x) [
    | inl same ↦
        ap (λ b. cond b (a ∷ filter t (range_with_len (a + 1) n)) (filter t (range_with_len (a + 1) n))) (ap t same ∙ here)
        ∙ ap (λ (l : List ℕ). a ∷ l) (none_pass (a + 1) n (λ k ge below. others k (omega arith) (omega arith) (λ e. absurd (omega (arith, e, same, ge)))))
        ∙ ap (λ (k : ℕ). k ∷ []) same
    | inr apart ↦
        ap (λ b. cond b (a ∷ filter t (range_with_len (a + 1) n)) (filter t (range_with_len (a + 1) n))) (others a (omega arith) (omega arith) apart)
        ∙ one_passes (a + 1) n x (above a x apart le) (omega arith) here (λ k ge below other. others k (omega arith) (omega arith) other)
  ]
    where
      above : (a x : ℕ) → a ≢ x → a ≤ x → a + 1 ≤ x
      above a x apart le = omega arith

-- of the numbers below a multiple of a width, those with one remainder: one for each multiple
module _ (width rest : ℕ) (lt : rest < width) where
  abbrev has_rest : ℕ → Bool
  has_rest k = k % width == rest

  passes : (h : ℕ) → has_rest (h * width + rest) ≡ true
  passes h = eq-eqb ((h * width + rest) % width) rest (mod-mul-add h width rest lt)

  fails : (h k : ℕ) → h * width ≤ k → k < h * width + width → k ≢ h * width + rest → has_rest k ≡ false
  fails h k le below other = ne_eqb (k % width) rest (λ e. other (at k (h * width) le below (λ j small. mod-mul-add h width j small) e))
    where
      at : (k a : ℕ) → a ≤ k → k < a + width → ((j : ℕ) → j < width → (a + j) % width ≡ j) → k % width ≡ rest → k ≡ a + rest
      at k a le below own e =
          let j : ℕ = k - a in
          let k_is : k ≡ a + j = omega arith in
          let small : j < width = omega arith in
          let j_is : j ≡ rest = sym (own j small) ∙ ap (λ (n : ℕ). n % width) (sym k_is) ∙ e in
          omega (arith, k_is, j_is)

  pub with_rest : (h : ℕ) → filter has_rest (range_with_len 0 (h * width)) ≡ map (λ k. k * width + rest) (range_with_len 0 h)
  with_rest zero = (let none : 0 * width ≡ 0 = omega arith in ap (λ (n : ℕ). filter has_rest (range_with_len 0 n)) none)
  with_rest (suc h) =
      let more : h + 1 ≡ suc h = omega arith in
      let start : 0 + h * width ≡ h * width = omega arith in
      ap (λ (n : ℕ). filter has_rest (range_with_len 0 n)) (suc-mul h width)
      ∙ ap (filter has_rest) (range_parts 0 (h * width) width)
      ∙ filter-append has_rest (range_with_len 0 (h * width)) (range_with_len (0 + h * width) width)
      ∙ ap (λ (a : ℕ). filter has_rest (range_with_len 0 (h * width)) ++ filter has_rest (range_with_len a width)) start
      ∙ (λ i. with_rest h i ++ one_passes has_rest (h * width) width (h * width + rest) (omega arith) (omega arith) (passes h) (fails h) i)
      ∙ sym (map-range_with_len_more (λ k. k * width + rest) 0 h h (omega arith))
      ∙ ap (λ (n : ℕ). map (λ k. k * width + rest) (range_with_len 0 n)) more
