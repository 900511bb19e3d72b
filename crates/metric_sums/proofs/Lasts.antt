-- Lists and their last elements.
use Rattle.std.proofs.Common.{◌≡◌, ℕ, zero, suc, ◌+◌, ◌-◌, ◌<◌, ◌==◌, true, false, List, [], ◌∷◌, ◌++◌, length, get_or, Some, All, AllPairs, refl, sym, ap, subst, ◌∙◌, arith, inl, inr, length-append}
use Rattle.std.specs.Prelude.{◌≢◌, ◌⊎◌, slice_get}
use Rattle.std.proofs.lemmas.Bool.{eq-eqb}
use Rattle.std.proofs.lemmas.List.Elements.{All-nil, All-cons, All-append, All-head, All-tail, All-weaker}
use Rattle.std.proofs.lemmas.List.Quantifiers.{all_pairs_push}
use Rattle.metric_sums.specs.declared.ancestors.OpenNode.{OpenNode}
use Rattle.metric_sums.specs.private.Ancestors.{ends_with, is_node}

pub fronts : {X : Type 0} (P : X → Type 0) (xs : List X) (x : X) → All P (xs ++ x ∷ []) → All P xs
fronts P [] x all = All-nil P
fronts P (y ∷ xs) x all = All-cons P y xs (All-head P y (xs ++ x ∷ []) all) (fronts P xs x (All-tail P y (xs ++ x ∷ []) all))

pub all_last : {X : Type 0} (P : X → Type 0) (xs : List X) (x : X) → All P (xs ++ x ∷ []) → P x
all_last P [] x all = All-head P x [] all
all_last P (y ∷ xs) x all = all_last P xs x (All-tail P y (xs ++ x ∷ []) all)

pub all_more : {X : Type 0} (P : X → Type 0) (xs : List X) (x : X) → All P xs → P x → All P (xs ++ x ∷ [])
all_more P xs x all one = All-append P xs (x ∷ []) all (All-cons P x [] one (All-nil P))

pairs_tail : {X : Type 0} (R : X → X → Type 0) (x : X) (xs : List X) → AllPairs R (x ∷ xs) → AllPairs R xs
pairs_tail R x xs h i j d less lt = h (suc i) (suc j) d (omega arith) (omega arith)

pub pairs_last : {X : Type 0} (R : X → X → Type 0) (xs : List X) (x : X) → AllPairs R (xs ++ x ∷ []) → All (λ y. R y x) xs
pairs_last R [] x h = All-nil (λ y. R y x)
pairs_last {X} R (y ∷ xs) x h =
    All-cons (λ y. R y x) y xs
    (let all : All (R y) (xs ++ x ∷ []) = λ i d lt. h 0 (suc i) d (omega arith) (omega arith) in all_last (R y) xs x all)
    (pairs_last R xs x (pairs_tail R y (xs ++ x ∷ []) h))

pub pairs_front : {X : Type 0} (R : X → X → Type 0) (xs : List X) (x : X) → AllPairs R (xs ++ x ∷ []) → AllPairs R xs
pairs_front R xs x h i j d less lt =
    let long = length-append xs (x ∷ []) in
    let all = h i j d less (omega (arith, lt, long)) in
    subst (λ y. R y (get_or xs j d)) (left xs x i d (omega (arith, less, lt))) (subst (λ y. R (get_or (xs ++ x ∷ []) i d) y) (left xs x j d lt) all)
  where
    left : {X : Type 0} (xs : List X) (x : X) (i : ℕ) (d : X) → i < length xs → get_or (xs ++ x ∷ []) i d ≡ get_or xs i d
    left [] x i d lt = absurd (omega arith)
    left (y ∷ xs) x zero d lt = refl
    left (y ∷ xs) x (suc i) d lt = left xs x i d (omega arith)

pub pairs_more : {X : Type 0} (R : X → X → Type 0) (xs : List X) (x : X) → AllPairs R xs → All (λ y. R y x) xs → AllPairs R (xs ++ x ∷ [])
pairs_more R xs x pairs all = all_pairs_push R xs x pairs (λ k d lt. all k d lt)

-- ---- nodes of ancestors

pub last_view : (ancestors : List OpenNode) → (ancestors ≡ []) ⊎ ((front : List OpenNode) × (o : OpenNode) × (ancestors ≡ front ++ o ∷ []))
last_view [] = inl refl
last_view (o ∷ ancestors) = elim (last_view ancestors) [
  | inl none ↦ inr ([], o, ap (λ (l : List OpenNode). o ∷ l) none)
  | inr some ↦ inr (o ∷ some.0, some.1, ap (λ (l : List OpenNode). o ∷ l) some.2)
]

last_got : (front : List OpenNode) (o : OpenNode) → slice_get (front ++ o ∷ []) (length (front ++ o ∷ []) - 1) ≡ Some o
last_got front o = (let long = length-append front (o ∷ []) in let at : length (front ++ o ∷ []) - 1 ≡ length front = omega (arith, long) in ap (slice_get (front ++ o ∷ [])) at) ∙ got front o
  where
    got : (front : List OpenNode) (o : OpenNode) → slice_get (front ++ o ∷ []) (length front) ≡ Some o
    got [] o = refl
    got (p ∷ front) o = got front o

not_last : (node : ℕ) (front : List OpenNode) (o : OpenNode) → ends_with node (front ++ o ∷ []) ≡ false → o.node ≢ node
not_last node front o fails e =
    let tested : (o.node == node) ≡ false = sym (ap (is_node node) (last_got front o)) ∙ fails in
    let same : (o.node == node) ≡ true = eq-eqb o.node node e in
    let f : true ≡ false = sym same ∙ tested in absurd cc

-- where rising ancestors don't end with a node, all its nodes are before that
pub all_before : (node : ℕ) (ancestors : List OpenNode) → AllPairs (λ a b. a.node < b.node) ancestors → All (λ o. o.node < node + 1) ancestors → ends_with node ancestors ≡ false → All (λ o. o.node < node) ancestors
all_before node ancestors rise below fails = elim (last_view ancestors) [
  | inl none ↦ subst (λ (l : List OpenNode). All (λ o. o.node < node) l) (sym none) (All-nil (λ (o : OpenNode). o.node < node))
  | inr some ↦
      let front : List OpenNode = some.0 in let o : OpenNode = some.1 in
      let apart = not_last node front o (ap (ends_with node) (sym some.2) ∙ fails) in
      let low = all_last (λ (o : OpenNode). o.node < node + 1) front o (subst (λ (l : List OpenNode). All (λ o. o.node < node + 1) l) some.2 below) in
      let here : o.node < node = at_most o.node node apart low in
      let rest = pairs_last (λ (a b : OpenNode). a.node < b.node) front o (subst (λ (l : List OpenNode). AllPairs (λ a b. a.node < b.node) l) some.2 rise) in
      subst (λ (l : List OpenNode). All (λ o. o.node < node) l) (sym some.2)
      (all_more (λ (o : OpenNode). o.node < node) front o (All-weaker (λ (a : OpenNode). a.node < o.node) (λ a. a.node < node) (λ a lt. omega arith) front rest) here)
]
  where
    at_most : (a b : ℕ) → a ≢ b → a < b + 1 → a < b
    at_most a b apart lt = omega arith
