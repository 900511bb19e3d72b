-- Sums over the views.
use Rattle.std.proofs.Common.{add-one, zero-mul, one-mul, add-mul, ◌*◌, ◌≡◌, ◌≢◌, ℕ, zero, suc, ◌+◌, ◌<◌, ◌≤◌, ◌==◌, ◌&&◌, ◌||◌, cond, true≢false, eqb, eq-eqb, Bool, true, false, List, [], ◌∷◌, ◌++◌, length, set, take, get_or, ne_eqb, sym, refl, ap, ◌∙◌, subst, arith}
use mathlib.Core.Logic.{dite}
use native.Mathlib.Decide.{ℕ_discrete}
use mathlib.Core.Option.{some, some-injective, some-ne-none}
use lib.ListN.{get_elem?}
use Rattle.stripe_table.specs.Views.{sum_below, total, weight, occurrences, times_piece, is_piece, without, chunk_pieces}
use Rattle.std.specs.List.{sum_by, flat_map, list_any}
use Rattle.std.proofs.lemmas.List.Sums.{sum_by-append, sum_by-cons}
use Rattle.std.proofs.lemmas.List.Folds.{list_any-append}
use Rattle.std.proofs.lemmas.List.{flat_map_more}

module _ {V : Type 0} where
  pub total_set : (f : V → ℕ) (vs : List V) (i : ℕ) (v w : V) → get_elem? vs i ≡ some v → total f (set vs i w) + f v ≡ total f vs + f w
  total_set f [] i v w e = absurd (some-ne-none v (sym e))
  total_set f (x ∷ xs) zero v w e = let is : f x ≡ f v = ap f (some-injective x v e) in omega arith
  total_set f (x ∷ xs) (suc i) v w e = let r = total_set f xs i v w e in omega arith

  pub total_same : (f : V → ℕ) (vs : List V) (i : ℕ) (v w : V) → get_elem? vs i ≡ some v → f w ≡ f v → total f (set vs i w) ≡ total f vs
  total_same f vs i v w e s = let r = total_set f vs i v w e in omega arith

  pub total_snoc : (f : V → ℕ) (vs : List V) (w : V) → total f (vs ++ w ∷ []) ≡ total f vs + f w
  total_snoc f [] w = omega arith
  total_snoc f (x ∷ xs) w = let r = total_snoc f xs w in omega arith

  pub total_has : (f : V → ℕ) (vs : List V) (i : ℕ) (v : V) → get_elem? vs i ≡ some v → f v ≤ total f vs
  total_has f [] i v e = absurd (some-ne-none v (sym e))
  total_has f (x ∷ xs) zero v e = let is : f x ≡ f v = ap f (some-injective x v e) in omega arith
  total_has f (x ∷ xs) (suc i) v e = let r = total_has f xs i v e in omega arith

  -- two indices
  pub total_two : (f : V → ℕ) (vs : List V) (i j : ℕ) (v u : V) → get_elem? vs i ≡ some v → get_elem? vs j ≡ some u → j ≢ i → f v + f u ≤ total f vs
  total_two f [] i j v u e d n = absurd (some-ne-none v (sym e))
  total_two f (x ∷ xs) zero zero v u e d n = absurd (n refl)
  total_two f (x ∷ xs) zero (suc j) v u e d n = let is : f x ≡ f v = ap f (some-injective x v e) in let r = total_has f xs j u d in omega arith
  total_two f (x ∷ xs) (suc i) zero v u e d n = let is : f x ≡ f u = ap f (some-injective x u d) in let r = total_has f xs i v e in omega arith
  total_two f (x ∷ xs) (suc i) (suc j) v u e d n = let r = total_two f xs i j v u e d (λ k. n (ap suc k)) in omega arith

  -- where all others have none
  pub total_none : (f : V → ℕ) (vs : List V) → ((j : ℕ) (u : V) → get_elem? vs j ≡ some u → f u ≡ 0) → total f vs ≡ 0
  total_none f [] h = refl
  total_none f (x ∷ xs) h = let a = h 0 x refl in let r = total_none f xs (λ j u e. h (suc j) u e) in omega arith

  pub total_one : (f : V → ℕ) (vs : List V) (i : ℕ) (v : V) → get_elem? vs i ≡ some v → ((j : ℕ) (u : V) → j ≢ i → get_elem? vs j ≡ some u → f u ≡ 0) → total f vs ≡ f v
  total_one f [] i v e h = absurd (some-ne-none v (sym e))
  total_one f (x ∷ xs) zero v e h = let is : f x ≡ f v = ap f (some-injective x v e) in let r = total_none f xs (λ j u d. h (suc j) u (λ k. omega arith) d) in omega arith
  total_one f (x ∷ xs) (suc i) v e h = let a = h 0 x (λ k. omega arith) refl in let r = total_one f xs i v e (λ j u n d. h (suc j) u (λ k. n (omega arith)) d) in omega arith

pub times_snoc : (x : ℕ) (ys : List ℕ) (y : ℕ) → occurrences x (ys ++ y ∷ []) ≡ occurrences x ys + weight (x == y)
times_snoc x [] y = omega arith
times_snoc x (z ∷ zs) y = let r = times_snoc x zs y in omega arith

pub times_append : (x : ℕ) (ys zs : List ℕ) → occurrences x (ys ++ zs) ≡ occurrences x ys + occurrences x zs
times_append x [] zs = omega arith
times_append x (y ∷ ys) zs = let r = times_append x ys zs in omega arith

up_to_most : (n : ℕ) (f : ℕ → ℕ) → ((c : ℕ) → f c ≤ 1) → sum_below n f ≤ n
up_to_most zero f h = omega arith
up_to_most (suc n) f h = let a = h n in let r = up_to_most n f h in omega arith

pub up_to_sum : (n : ℕ) (f g : ℕ → ℕ) → sum_below n (λ c. f c + g c) ≡ sum_below n f + sum_below n g
up_to_sum zero f g = refl
up_to_sum (suc n) f g = let r = up_to_sum n f g in omega arith

up_to_past : (n y : ℕ) → n ≤ y → sum_below n (λ c. weight (c == y)) ≡ 0
up_to_past zero y h = refl
up_to_past (suc n) y h = let a : weight (n == y) ≡ 0 = ap weight (ne_eqb n y (λ e. omega arith)) in let r = up_to_past n y (omega arith) in omega arith

up_to_hit : (n y : ℕ) → y < n → 1 ≤ sum_below n (λ c. weight (c == y))
up_to_hit zero y h = absurd (omega arith)
up_to_hit (suc n) y h = dite (ℕ_discrete n y) (λ e. let a : weight (n == y) ≡ 1 = ap weight (eq-eqb n y e) in omega arith) (λ ne. let r = up_to_hit n y (omega arith) in omega arith)

up_to_length : (n : ℕ) (xs : List ℕ) → ((c : ℕ) → 0 < occurrences c xs → c < n) → length xs ≤ sum_below n (λ c. occurrences c xs)
up_to_length n [] h = omega arith
up_to_length n (y ∷ ys) h = let r = up_to_length n ys (λ c z. h c (omega arith)) in let b : y < n = h y (let a : weight (y == y) ≡ 1 = ap weight (eq-eqb y y refl) in omega arith) in
    let a = up_to_hit n y b in let s = up_to_sum n (λ c. weight (c == y)) (λ c. occurrences c ys) in omega arith

-- distinct numbers below n are at most n
pub few_below : (n : ℕ) (xs : List ℕ) → ((c : ℕ) → occurrences c xs ≤ 1) → ((c : ℕ) → 0 < occurrences c xs → c < n) → length xs ≤ n
few_below n xs d h = let a = up_to_length n xs h in let b = up_to_most n (λ c. occurrences c xs) d in omega arith

times_take_suc : (x i : ℕ) (ys : List ℕ) → i < length ys → get_or ys i 0 ≢ x → occurrences x (take i ys) ≡ 0 → occurrences x (take (suc i) ys) ≡ 0
times_take_suc x zero [] h n z = absurd (omega arith)
times_take_suc x (suc i) [] h n z = absurd (omega arith)
times_take_suc x zero (y ∷ ys) h n z = let a : weight (x == y) ≡ 0 = ap weight (ne_eqb x y (λ e. n (sym e))) in omega arith
times_take_suc x (suc i) (y ∷ ys) h n z = let r = times_take_suc x i ys (omega arith) n (omega arith) in omega arith

pub times_take : (x i : ℕ) (ys : List ℕ) → i < length ys → get_or ys i 0 ≢ x → occurrences x (take i ys) ≡ 0 → occurrences x (take (i + 1) ys) ≡ 0
times_take x i ys h n z = rw add-one (times_take_suc x i ys h n z)

take_there_suc : {A : Type 0} (l : List A) (i : ℕ) (a : A) → get_elem? l i ≡ some a → take (suc i) l ≡ take i l ++ a ∷ []
take_there_suc [] i a e = absurd (some-ne-none a (sym e))
take_there_suc (x ∷ xs) zero a e = λ k. some-injective x a e k ∷ []
take_there_suc (x ∷ xs) (suc i) a e = λ k. x ∷ take_there_suc xs i a e k

pub take_there : {A : Type 0} (l : List A) (i : ℕ) (a : A) → get_elem? l i ≡ some a → take (i + 1) l ≡ take i l ++ a ∷ []
take_there l i a e = rw add-one (take_there_suc l i a e)

pub sum_by_snoc : (f : ℕ → ℕ) (xs : List ℕ) (c : ℕ) → sum_by f (xs ++ c ∷ []) ≡ sum_by f xs + f c
sum_by_snoc f xs c = let a = sum_by-append f xs (c ∷ []) in let b = sum_by-cons f c [] in let z : sum_by f [] ≡ 0 = refl in omega arith

pub flat_map_snoc : {X : Type 0} (f : ℕ → List X) (xs : List ℕ) (c : ℕ) → flat_map f (xs ++ c ∷ []) ≡ flat_map f xs ++ f c
flat_map_snoc f xs c = sym (flat_map_more f [] xs c)

pub list_any_snoc : (f : ℕ → Bool) (xs : List ℕ) (c : ℕ) → list_any f (xs ++ c ∷ []) ≡ (list_any f xs || f c)
list_any_snoc f xs c = list_any-append f xs (c ∷ []) ∙ ap (λ (b : Bool). list_any f xs || b) (or_false (f c))
  where
    or_false : (b : Bool) → (b || false) ≡ b
    or_false true = refl
    or_false false = refl

pub piece_append : (c s : ℕ) (xs ys : List (ℕ × ℕ)) → times_piece c s (xs ++ ys) ≡ times_piece c s xs + times_piece c s ys
piece_append c s [] ys = omega arith
piece_append c s (x ∷ xs) ys = let r = piece_append c s xs ys in omega arith

-- what is owed after one is paid was owed before
pub piece_without : (c s d t : ℕ) (xs : List (ℕ × ℕ)) → times_piece c s (without d t xs) ≤ times_piece c s xs
piece_without c s d t [] = omega arith
piece_without c s d t (x ∷ xs) = let r = piece_without c s d t xs in elim (is_piece d t x) as (λ b. times_piece c s (cond b xs (x ∷ without d t xs)) ≤ times_piece c s (x ∷ xs)) [ true ↦ omega arith | false ↦ omega arith ]

is_piece-true : (c s : ℕ) (q : ℕ × ℕ) → is_piece c s q ≡ true → (c ≡ q.0) × (s ≡ q.1)
is_piece-true c s q e = dite (ℕ_discrete c q.0)
    (λ a. dite (ℕ_discrete s q.1) (λ b. (a, b)) (λ nb. absurd (true≢false (sym e ∙ (λ i. eqb c q.0 && ne_eqb s q.1 nb i) ∙ and_false (eqb c q.0)))))
    (λ na. absurd (true≢false (sym e ∙ (λ i. ne_eqb c q.0 na i && eqb s q.1))))
  where
    and_false : (b : Bool) → (b && false) ≡ false
    and_false true = refl
    and_false false = refl

pub piece_self : (c s : ℕ) → is_piece c s (c, s) ≡ true
piece_self c s = λ i. eq-eqb c c refl i && eq-eqb s s refl i

-- another piece stays
pub piece_else : (c s d t : ℕ) (xs : List (ℕ × ℕ)) → (c ≡ d → s ≡ t → ⊥) → times_piece c s (without d t xs) ≡ times_piece c s xs
piece_else c s d t [] n = refl
piece_else c s d t (x ∷ xs) n = let r = piece_else c s d t xs n in both r (is_piece d t x) (is_piece c s x) refl refl
  where
    both : times_piece c s (without d t xs) ≡ times_piece c s xs → (a b : Bool) → is_piece d t x ≡ a → is_piece c s x ≡ b → times_piece c s (without d t (x ∷ xs)) ≡ times_piece c s (x ∷ xs)
    both r true true p q = let y = is_piece-true d t x p in let z = is_piece-true c s x q in absurd (n (z.0 ∙ sym y.0) (z.1 ∙ sym y.1))
    both r true false p q = ap (λ (a : Bool). times_piece c s (cond a xs (x ∷ without d t xs))) p ∙ (let a : weight (is_piece c s x) ≡ 0 = ap weight q in let z : times_piece c s xs ≡ weight (is_piece c s x) + times_piece c s xs = omega arith in z)
    both r false b p q = ap (λ (a : Bool). times_piece c s (cond a xs (x ∷ without d t xs))) p ∙ ap (λ (n : ℕ). weight (is_piece c s x) + n) r

pub pieces_have : (c k s : ℕ) → s < k → 1 ≤ times_piece c s (chunk_pieces c k)
pieces_have c zero s h = absurd (omega arith)
pieces_have c (suc k) s h = dite (ℕ_discrete s k) (λ e. let a : weight (is_piece c s (c, k)) ≡ 1 = ap weight (ap (λ (z : ℕ). is_piece c s (c, z)) (sym e) ∙ piece_self c s) in omega arith) (λ ne. let r = pieces_have c k s (omega arith) in omega arith)

pub pieces_are : (c k d s : ℕ) → 0 < times_piece d s (chunk_pieces c k) → (d ≡ c) × (s < k)
pieces_are c zero d s h = absurd (omega arith)
pieces_are c (suc k) d s h = test (λ z. pieces_are c k d s z) (is_piece d s (c, k)) refl
  where
    test : (0 < times_piece d s (chunk_pieces c k) → (d ≡ c) × (s < k)) → (b : Bool) → is_piece d s (c, k) ≡ b → (d ≡ c) × (s < suc k)
    test f true e = let y = is_piece-true d s (c, k) e in (y.0, (let z = y.1 in omega arith))
    test f false e = let w : weight (is_piece d s (c, k)) ≡ 0 = ap weight e in let r = f (omega arith) in (r.0, (let z = r.1 in omega arith))

up_to_one : (n y : ℕ) → y < n → sum_below n (λ c. weight (c == y)) ≡ 1
up_to_one zero y h = absurd (omega arith)
up_to_one (suc n) y h = dite (ℕ_discrete n y) (λ e. let a : weight (n == y) ≡ 1 = ap weight (eq-eqb n y e) in let r = up_to_past n y (omega arith) in omega arith)
    (λ ne. let a : weight (n == y) ≡ 0 = ap weight (ne_eqb n y ne) in let r = up_to_one n y (omega arith) in omega arith)

-- numbers below n are as many as their times below n
pub up_to_all : (n : ℕ) (xs : List ℕ) → ((c : ℕ) → 0 < occurrences c xs → c < n) → sum_below n (λ c. occurrences c xs) ≡ length xs
up_to_all n [] h = up_to_zero n
  where
    up_to_zero : (n : ℕ) → sum_below n (λ c. 0) ≡ 0
    up_to_zero zero = refl
    up_to_zero (suc n) = let r = up_to_zero n in omega arith
up_to_all n (y ∷ ys) h = let r = up_to_all n ys (λ c z. h c (omega arith)) in let b : y < n = h y (let a : weight (y == y) ≡ 1 = ap weight (eq-eqb y y refl) in omega arith) in
    let a = up_to_one n y b in let s = up_to_sum n (λ c. weight (c == y)) (λ c. occurrences c ys) in omega arith

at_most_once : (k x : ℕ) → k ≤ 1 → k * x ≤ x
at_most_once zero x h = let z : 0 * x ≡ 0 = zero-mul x in omega arith
at_most_once (suc k) x h = let e : k ≡ 0 = omega arith in subst (λ (y : ℕ). suc y * x ≤ x) (sym e) (let z = one-mul x in omega arith)

pub up_to_le : (n : ℕ) (f g : ℕ → ℕ) → ((c : ℕ) → f c ≤ g c) → sum_below n f ≤ sum_below n g
up_to_le zero f g h = omega arith
up_to_le (suc n) f g h = let a = h n in let r = up_to_le n f g h in omega arith

up_to_pick : (n y : ℕ) (f : ℕ → ℕ) → y < n → f y ≤ sum_below n (λ c. weight (c == y) * f c)
up_to_pick zero y f h = absurd (omega arith)
up_to_pick (suc n) y f h = dite (ℕ_discrete n y) (λ e. let a : weight (n == y) * f n ≡ 1 * f n = ap (λ (k : ℕ). k * f n) (ap weight (eq-eqb n y e)) in let z = one-mul (f n) in let g : f n ≡ f y = ap f e in omega arith)
    (λ ne. let r = up_to_pick n y f (omega arith) in omega arith)

split_up : (n y : ℕ) (ys : List ℕ) (f : ℕ → ℕ) → sum_below n (λ c. occurrences c (y ∷ ys) * f c) ≡ sum_below n (λ c. weight (c == y) * f c + occurrences c ys * f c)
split_up zero y ys f = refl
split_up (suc n) y ys f = let r = split_up n y ys f in let a = add-mul (weight (n == y)) (occurrences n ys) (f n) in omega arith

weighed : (f : ℕ → ℕ) (n : ℕ) (xs : List ℕ) → ((c : ℕ) → 0 < occurrences c xs → c < n) → sum_by f xs ≤ sum_below n (λ c. occurrences c xs * f c)
weighed f n [] h = let z : sum_by f [] ≡ 0 = refl in omega arith
weighed f n (y ∷ ys) h = let r = weighed f n ys (λ c z. h c (omega arith)) in let b : y < n = h y (let a : weight (y == y) ≡ 1 = ap weight (eq-eqb y y refl) in omega arith) in
    let k = sum_by-cons f y ys in let s = up_to_sum n (λ c. weight (c == y) * f c) (λ c. occurrences c ys * f c) in let o = up_to_pick n y f b in let e = split_up n y ys f in omega arith

-- distinct numbers below n weigh no more than all numbers below n
pub sum_over_below : (f : ℕ → ℕ) (n : ℕ) (xs : List ℕ) → ((c : ℕ) → occurrences c xs ≤ 1) → ((c : ℕ) → 0 < occurrences c xs → c < n) → sum_by f xs ≤ sum_below n f
sum_over_below f n xs d h = let a = weighed f n xs h in let b = up_to_le n (λ c. occurrences c xs * f c) f (λ c. at_most_once (occurrences c xs) (f c) (d c)) in omega arith

up_to_shift : (n : ℕ) (g : ℕ → ℕ) → sum_below (suc n) g ≡ g 0 + sum_below n (λ i. g (suc i))
up_to_shift zero g = refl
up_to_shift (suc n) g = let r = up_to_shift n g in omega arith

-- the sum over a list is that over its indices
pub up_to_list : {X : Type 0} (f : List X → ℕ) (xs : List (List X)) → sum_below (length xs) (λ i. f (get_or xs i [])) ≡ sum_by f xs
up_to_list f [] = refl
up_to_list f (x ∷ xs) = let s = up_to_shift (length xs) (λ i. f (get_or (x ∷ xs) i [])) in let r = up_to_list f xs in let c = sum_by-cons f x xs in omega arith

up_to_none : (n : ℕ) (f : ℕ → ℕ) → sum_below n (λ c. 0 * f c) ≡ 0
up_to_none zero f = refl
up_to_none (suc n) f = let z = zero-mul (f n) in let r = up_to_none n f in omega arith

up_to_above : (n y : ℕ) (f : ℕ → ℕ) → n ≤ y → sum_below n (λ c. weight (c == y) * f c) ≡ 0
up_to_above zero y f h = refl
up_to_above (suc n) y f h = let a : weight (n == y) * f n ≡ 0 * f n = ap (λ (k : ℕ). k * f n) (ap weight (ne_eqb n y (λ e. omega arith))) in let z = zero-mul (f n) in let r = up_to_above n y f (omega arith) in omega arith

up_to_own : (n y : ℕ) (f : ℕ → ℕ) → y < n → sum_below n (λ c. weight (c == y) * f c) ≡ f y
up_to_own zero y f h = absurd (omega arith)
up_to_own (suc n) y f h = dite (ℕ_discrete n y)
    (λ e. let a : weight (n == y) * f n ≡ 1 * f n = ap (λ (k : ℕ). k * f n) (ap weight (eq-eqb n y e)) in let z = one-mul (f n) in let g : f n ≡ f y = ap f e in let r = up_to_above n y f (omega arith) in omega arith)
    (λ ne. let a : weight (n == y) * f n ≡ 0 * f n = ap (λ (k : ℕ). k * f n) (ap weight (ne_eqb n y ne)) in let z = zero-mul (f n) in let r = up_to_own n y f (omega arith) in omega arith)

-- the sum over numbers below n takes each as often as it is there
sum_by_times : (f : ℕ → ℕ) (n : ℕ) (xs : List ℕ) → ((c : ℕ) → 0 < occurrences c xs → c < n) → sum_by f xs ≡ sum_below n (λ c. occurrences c xs * f c)
sum_by_times f n [] h = sym (up_to_none n f)
sum_by_times f n (y ∷ ys) h = let r = sum_by_times f n ys (λ c z. h c (omega arith)) in let b : y < n = h y (let a : weight (y == y) ≡ 1 = ap weight (eq-eqb y y refl) in omega arith) in
    let k = sum_by-cons f y ys in let s = up_to_sum n (λ c. weight (c == y) * f c) (λ c. occurrences c ys * f c) in let o = up_to_own n y f b in let e = split_up n y ys f in omega arith

up_to_same : (n : ℕ) (f g : ℕ → ℕ) → ((c : ℕ) → c < n → f c ≡ g c) → sum_below n f ≡ sum_below n g
up_to_same zero f g h = refl
up_to_same (suc n) f g h = let a = h n (omega arith) in let r = up_to_same n f g (λ c lt. h c (omega arith)) in omega arith

once_each : (k x : ℕ) → k ≤ 1 → 0 < k → k * x ≡ x
once_each k x few more = let e : k ≡ 1 = omega arith in ap (λ (m : ℕ). m * x) e ∙ one-mul x

-- distinct numbers below n that are all of them sum up to all
pub sum_over_all : (f : ℕ → ℕ) (n : ℕ) (xs : List ℕ) → ((c : ℕ) → occurrences c xs ≤ 1) → ((c : ℕ) → 0 < occurrences c xs → c < n) → ((c : ℕ) → c < n → 0 < occurrences c xs) → sum_by f xs ≡ sum_below n f
sum_over_all f n xs d h all = sum_by_times f n xs h ∙ up_to_same n (λ c. occurrences c xs * f c) f (λ c lt. once_each (occurrences c xs) (f c) (d c) (all c lt))
