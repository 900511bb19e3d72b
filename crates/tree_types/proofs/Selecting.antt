-- What stays of lists that are put together, and lists over the numbers from one up to another.
use Rattle.std.proofs.Common.{◌≡◌, ℕ, zero, suc, ◌+◌, ◌<◌, ◌≤◌, Bool, true, false, cond, List, [], ◌∷◌, ◌++◌, length, get_or, map, filter, refl, sym, ap, ◌∙◌, arith, inl, inr, append-nil, zero-add, ext_get_or}
use Rattle.std.specs.Prelude.{◌≢◌}
use Rattle.std.specs.List.{flat_map, range_with_len, enumerate_from}
use Rattle.std.proofs.lemmas.Bool.{cases_eq}
use Rattle.std.proofs.lemmas.List.{get_or-map, length-map, map-append}
use Rattle.std.proofs.lemmas.List.Elements.{filter-append}
use Rattle.std.proofs.lemmas.List.FromFn.{length-enumerate_from, get_or-enumerate_from, length-map-range_with_len, get_or-map-range_with_len}

module _ {X Y : Type 0} where
  pub filter_of_flat_map : (p : Y → Bool) (f : X → List Y) (xs : List X) → filter p (flat_map f xs) ≡ flat_map (λ x. filter p (f x)) xs
  filter_of_flat_map p f [] = refl
  filter_of_flat_map p f (x ∷ xs) = filter-append p (f x) (flat_map f xs) ∙ ap (λ (l : List Y). filter p (f x) ++ l) (filter_of_flat_map p f xs)

  pub filter_of_map : (p : Y → Bool) (f : X → Y) (xs : List X) → filter p (map f xs) ≡ map f (filter (λ x. p (f x)) xs)
  filter_of_map p f [] = refl
  filter_of_map p f (x ∷ xs) = elim (p (f x)) as (λ b. cond b (f x ∷ filter p (map f xs)) (filter p (map f xs)) ≡ map f (cond b (x ∷ filter (λ x. p (f x)) xs) (filter (λ x. p (f x)) xs))) [
    | true ↦ ap (λ (l : List Y). f x ∷ l) (filter_of_map p f xs)
    | false ↦ filter_of_map p f xs
  ]

pub map_of_flat_map : {X Y Z : Type 0} (g : Y → Z) (f : X → List Y) (xs : List X) → map g (flat_map f xs) ≡ flat_map (λ x. map g (f x)) xs
map_of_flat_map g f [] = refl
map_of_flat_map {Z = Z} g f (x ∷ xs) = map-append g (f x) (flat_map f xs) ∙ ap (λ (l : List Z). map g (f x) ++ l) (map_of_flat_map g f xs)

pub map_of_map : {X Y Z : Type 0} (g : Y → Z) (f : X → Y) (xs : List X) → map g (map f xs) ≡ map (λ x. g (f x)) xs
map_of_map g f [] = refl
map_of_map {Z = Z} g f (x ∷ xs) = ap (λ (l : List Z). g (f x) ∷ l) (map_of_map g f xs)

pub flat_map_of_map : {X Y Z : Type 0} (g : Y → List Z) (f : X → Y) (xs : List X) → flat_map g (map f xs) ≡ flat_map (λ x. g (f x)) xs
flat_map_of_map g f [] = refl
flat_map_of_map {Z = Z} g f (x ∷ xs) = ap (λ (l : List Z). g (f x) ++ l) (flat_map_of_map g f xs)

module _ {X : Type 0} (p q : X → Bool) where
  pub filters_swap : (xs : List X) → filter p (filter q xs) ≡ filter q (filter p xs)
  filters_swap [] = refl
  filters_swap (x ∷ xs) =
      elim (q x) as (λ b. q x ≡ b → filter p (cond b (x ∷ filter q xs) (filter q xs)) ≡ filter q (cond (p x) (x ∷ filter p xs) (filter p xs))) [
        | true ↦ λ e. elim (p x) as (λ c. cond c (x ∷ filter p (filter q xs)) (filter p (filter q xs)) ≡ filter q (cond c (x ∷ filter p xs) (filter p xs))) [
          | true ↦ ap (λ (l : List X). x ∷ l) (filters_swap xs) ∙ ap (λ b. cond b (x ∷ filter q (filter p xs)) (filter q (filter p xs))) (sym e)
          | false ↦ filters_swap xs
        ]
        | false ↦ λ e. elim (p x) as (λ c. filter p (filter q xs) ≡ filter q (cond c (x ∷ filter p xs) (filter p xs))) [
          | true ↦ filters_swap xs ∙ ap (λ b. cond b (x ∷ filter q (filter p xs)) (filter q (filter p xs))) (sym e)
          | false ↦ filters_swap xs
        ]
      ] refl

module _ {Y : Type 0} where
  pub same_flat_map : (f g : ℕ → List Y) (a n : ℕ) → ((j : ℕ) → a ≤ j → j < a + n → f j ≡ g j) → flat_map f (range_with_len a n) ≡ flat_map g (range_with_len a n)
  same_flat_map f g a zero same = refl
  same_flat_map f g a (suc n) same =
      ap (λ (l : List Y). l ++ flat_map f (range_with_len (a + 1) n)) (same a (omega arith) (omega arith))
      ∙ ap (λ (l : List Y). g a ++ l) (same_flat_map f g (a + 1) n (λ j le lt. same j (omega arith) (omega arith)))

  pub none_of_flat_map : (f : ℕ → List Y) (a n : ℕ) → ((j : ℕ) → a ≤ j → f j ≡ []) → flat_map f (range_with_len a n) ≡ []
  none_of_flat_map f a zero none = refl
  none_of_flat_map f a (suc n) none =
      ap (λ (l : List Y). l ++ flat_map f (range_with_len (a + 1) n)) (none a (omega arith)) ∙ none_of_flat_map f (a + 1) n (λ j le. none j (omega arith))

  pub one_of_flat_map : (f : ℕ → List Y) (x a n : ℕ) → a ≤ x → x < a + n → ((j : ℕ) → j ≢ x → f j ≡ []) → flat_map f (range_with_len a n) ≡ f x
  one_of_flat_map f x a zero le lt none = absurd (omega arith)
  one_of_flat_map f x a (suc n) le lt none = elim (cases_eq a x) [
    | inl same ↦
        ap (λ (l : List Y). f a ++ l) (none_of_flat_map f (a + 1) n (λ j ge. none j (λ e. absurd (omega arith))))
        ∙ append-nil (f a) ∙ ap f same
    | inr apart ↦
        ap (λ (l : List Y). l ++ flat_map f (range_with_len (a + 1) n)) (none a apart)
        ∙ one_of_flat_map f x (a + 1) n (above a x apart le) (omega arith) none
  ]
    where
      above : (a x : ℕ) → a ≢ x → a ≤ x → a + 1 ≤ x
      above a x apart le = omega arith

  pub same_map : (f g : ℕ → Y) (a n : ℕ) → ((j : ℕ) → a ≤ j → j < a + n → f j ≡ g j) → map f (range_with_len a n) ≡ map g (range_with_len a n)
  same_map f g a zero same = refl
  same_map f g a (suc n) same =
      ap (λ y. y ∷ map f (range_with_len (a + 1) n)) (same a (omega arith) (omega arith))
      ∙ ap (λ (l : List Y). g a ∷ l) (same_map f g (a + 1) n (λ j le lt. same j (omega arith) (omega arith)))

module _ {X : Type 0} (d : X) where
  pub numbered : (xs : List X) → enumerate_from 0 xs ≡ map (λ i. (i, get_or xs i d)) (range_with_len 0 (length xs))
  numbered xs =
      let f : ℕ → ℕ × X = λ i. (i, get_or xs i d) in
      ext_get_or (0, d) (enumerate_from 0 xs) (map f (range_with_len 0 (length xs)))
      (length-enumerate_from 0 xs ∙ sym (length-map-range_with_len f 0 (length xs)))
      (λ i lt. let long = length-enumerate_from 0 xs in
      get_or-enumerate_from 0 xs i (0, d) (omega arith) ∙ ap (λ (k : ℕ). (k, get_or xs i d)) (zero-add i) ∙ sym (get_or-map-range_with_len f 0 (length xs) i i (0, d) (omega arith) (omega arith)))

  pub by_index : {Y : Type 0} (g : X → Y) (e : Y) (xs : List X) → map g xs ≡ map (λ i. g (get_or xs i d)) (range_with_len 0 (length xs))
  by_index {Y} g e xs =
      let f : ℕ → Y = λ i. g (get_or xs i d) in
      ext_get_or e (map g xs) (map f (range_with_len 0 (length xs)))
      (length-map xs g ∙ sym (length-map-range_with_len f 0 (length xs)))
      (λ i lt. let long = length-map xs g in
      get_or-map g xs i d e (omega arith) ∙ sym (get_or-map-range_with_len f 0 (length xs) i i e (omega arith) (omega arith)))
