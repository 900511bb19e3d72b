-- What halving finds in a list that strictly ascends by a key.
use Rattle.std.proofs.Common.{◌≡◌, ℕ, zero, suc, ◌<◌, ◌≤◌, Bool, true, false, List, [], ◌∷◌, length, get_or, filter, sum_by, Ordering, Less, Equal, Greater, is_eq, AllPairs, Result, Ok, Err, Some, None, cond, nat_lt, refl, ap, subst, ◌∙◌, arith, inl, inr}
use Rattle.std.specs.Prelude.{◌≢◌, MatchResult, position}
use Rattle.std.specs.List.{position_or_len}
use Rattle.std.specs.Cmp.{IsTotalOrder}
use Rattle.std.specs.FinMap.{IsAntisymmetric, nat_cmp-IsAntisymmetric, slice_cmp-IsAntisymmetric}
use Rattle.std.specs.Cmp.Lexicographic.{slice_cmp}
use Rattle.std.specs.List.Sorted.{IsSearchInRange, IsBinarySearchResult, IsNonDecreasingBy}
use Rattle.std.specs.Ordering.{nat_cmp, ordering_index, ordering_reverse}
use Rattle.std.proofs.lemmas.Bool.{cases_lt, cases_order, lt-ltb}
use Rattle.std.proofs.lemmas.Bool.Decides.{nat_tests}
use Rattle.std.proofs.lemmas.List.Sums.{position_or_len_is}

pub filter_none : {X : Type 0} (t : X → Bool) (xs : List X) (d : X) → ((k : ℕ) → k < length xs → t (get_or xs k d) ≡ false) → filter t xs ≡ []
filter_none t [] d none = refl
filter_none t (x ∷ xs) d none = rw (none 0 (omega arith)) (filter_none t xs d (λ k lt. none (suc k) (omega arith)))

pub filter_one : {X : Type 0} (t : X → Bool) (xs : List X) (i : ℕ) (d : X) → i < length xs → t (get_or xs i d) ≡ true
    → ((k : ℕ) → k < length xs → k ≢ i → t (get_or xs k d) ≡ false) → filter t xs ≡ get_or xs i d ∷ []
filter_one t [] i d lt e others = absurd (omega arith)
filter_one t (x ∷ xs) zero d lt e others =
    rw e (ap (λ r. x ∷ r) (filter_none t xs d (λ k below. others (suc k) (omega arith) (λ z. absurd (omega arith)))))
filter_one t (x ∷ xs) (suc i) d lt e others =
    rw (others 0 (omega arith) (λ z. absurd (omega arith)))
    (filter_one t xs i d (omega arith) e (λ k below apart. others (suc k) (omega arith) (λ z. apart (omega arith))))

not_lt_itself : (n : ℕ) → nat_lt n n ≡ false
not_lt_itself n = grind (arith, nat_tests)

-- the first that passes, where it is known; and none
position_some : {X : Type 0} (t : X → Bool) (xs : List X) (i : ℕ) → i < length xs → ((k : ℕ) (d : X) → k < i → t (get_or xs k d) ≡ false) → ((d : X) → t (get_or xs i d) ≡ true) → position t xs ≡ Some i
position_some t [] i lt before here = absurd (omega arith)
position_some t (x ∷ xs) i lt before here =
    let e : position_or_len t (x ∷ xs) ≡ i = position_or_len_is t (x ∷ xs) i x (omega arith) (λ k less. before k x less) (λ inside. here x) in
    ap (λ (j : ℕ). cond (nat_lt j (length (x ∷ xs))) (Some j) None) e ∙ ap (λ b. cond b (Some i) None) (lt-ltb i (length (x ∷ xs)) lt)

position_none : {X : Type 0} (t : X → Bool) (xs : List X) → ((k : ℕ) (d : X) → k < length xs → t (get_or xs k d) ≡ false) → position t xs ≡ None
position_none t [] fails = refl
position_none t (x ∷ xs) fails =
    let n : ℕ = length (x ∷ xs) in
    let e : position_or_len t (x ∷ xs) ≡ n = position_or_len_is t (x ∷ xs) n x (omega arith) (λ k less. fails k x less) (λ inside. absurd (omega arith)) in
    ap (λ (j : ℕ). cond (nat_lt j n) (Some j) None) e ∙ ap (λ b. cond b (Some n) None) (not_lt_itself n)

module _ {X K : Type 0} {R : K → K → Ordering} (o : IsTotalOrder R) (apart : IsAntisymmetric R) (key : X → K) (p : K) where
  turned : (a b : K) → R a b ≡ Less → R b a ≡ Greater
  turned a b e = o.antisymm b a ∙ ap ordering_reverse e

  turned_back : (a b : K) → R a b ≡ Greater → R b a ≡ Less
  turned_back a b e = o.antisymm b a ∙ ap ordering_reverse e

  -- where a key is p, a later one is above it, and an earlier one below
  above : (a b : K) → R a p ≡ Equal → R a b ≡ Less → R b p ≡ Greater
  above a b e less = subst (λ (z : K). R b z ≡ Greater) (apart a p e) (turned a b less)

  below : (a b : K) → R b p ≡ Equal → R a b ≡ Less → R a p ≡ Less
  below a b e less = subst (λ (z : K). R a z ≡ Less) (apart b p e) less

  rises : (a b : K) → R a b ≡ Less → ordering_index (R a p) ≤ ordering_index (R b p)
  rises a b less =
      elim (R a p) as (λ r. R a p ≡ r → ordering_index r ≤ ordering_index (R b p)) [
        | Less ↦ λ e. omega arith
        | Equal ↦ λ e. rw (above a b e less) (omega arith)
        | Greater ↦ λ e. rw (turned p b (o.trans p a b (turned_back a p e) less)) (omega arith)
      ] refl

  module _ (t : X → Bool) (tells : (x : X) → t x ≡ is_eq (R (key x) p)) (amount : X → ℕ) (xs : List X) (ascend : AllPairs (λ a b. R (key a) (key b) ≡ Less) xs) where
    fails_below : (x : X) → R (key x) p ≡ Less → t x ≡ false
    fails_below x e = tells x ∙ ap is_eq e

    fails_above : (x : X) → R (key x) p ≡ Greater → t x ≡ false
    fails_above x e = tells x ∙ ap is_eq e

    answers_rise : IsNonDecreasingBy (λ x. ordering_index (R (key x) p)) xs
    answers_rise i j d le lt = elim (cases_lt i j) [
      | inl less ↦ rises (key (get_or xs i d)) (key (get_or xs j d)) (ascend i j d less lt)
      | inr other ↦ let same : i ≡ j = omega arith in subst (λ (k : ℕ). ordering_index (R (key (get_or xs i d)) p) ≤ ordering_index (R (key (get_or xs k d)) p)) same (omega arith)
    ]

    -- the amount at p is that of the element that was found, or 0 where none was
    pub found_amount : (r : Result ℕ ℕ) → IsSearchInRange r (length xs) → IsBinarySearchResult (λ x. R (key x) p) xs r
        → MatchResult r (λ i. (d : X) → sum_by amount (filter t xs) ≡ amount (get_or xs i d)) (λ i. X → sum_by amount (filter t xs) ≡ 0)
    found_amount (Ok i) lt equal = λ d.
        let here : R (key (get_or xs i d)) p ≡ Equal = equal d in
        ap (sum_by amount) (filter_one t xs i d lt (tells (get_or xs i d) ∙ ap is_eq here) (λ k inside other. elim (cases_order k i) [
          | inl e ↦ absurd (other e)
          | inr (inl less) ↦ fails_below (get_or xs k d) (below (key (get_or xs k d)) (key (get_or xs i d)) here (ascend k i d less lt))
          | inr (inr more) ↦ fails_above (get_or xs k d) (above (key (get_or xs i d)) (key (get_or xs k d)) here (ascend i k d more inside))
        ])) ∙ omega arith
    found_amount (Err i) le parted = λ d.
        ap (sum_by amount) (filter_none t xs d (λ k inside. elim (cases_lt k i) [
          | inl less ↦ fails_below (get_or xs k d) ((parted answers_rise).0 k d (omega arith) less)
          | inr more ↦ fails_above (get_or xs k d) ((parted answers_rise).1 k d more inside)
        ]))

    -- the place of p is that of the element that was found; p has none where none was
    pub found_position : (r : Result ℕ ℕ) → IsSearchInRange r (length xs) → IsBinarySearchResult (λ x. R (key x) p) xs r
        → MatchResult r (λ i. position t xs ≡ Some i) (λ i. position t xs ≡ None)
    found_position (Ok i) lt equal = position_some t xs i lt
        (λ k d less. fails_below (get_or xs k d) (below (key (get_or xs k d)) (key (get_or xs i d)) (equal d) (ascend k i d less lt)))
        (λ d. tells (get_or xs i d) ∙ ap is_eq (equal d))
    found_position (Err i) le parted = position_none t xs (λ k d inside. elim (cases_lt k i) [
      | inl less ↦ fails_below (get_or xs k d) ((parted answers_rise).0 k d (omega arith) less)
      | inr more ↦ fails_above (get_or xs k d) ((parted answers_rise).1 k d more inside)
    ])

-- the order of lists of numbers tells any two apart
pub nat_lists_apart : IsAntisymmetric (slice_cmp nat_cmp)
nat_lists_apart = slice_cmp-IsAntisymmetric nat_cmp-IsAntisymmetric
