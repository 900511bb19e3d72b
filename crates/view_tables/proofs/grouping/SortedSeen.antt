-- A list sorted, and each element kept once, as it is seen through a function that tells no two alike apart.
use Rattle.std.proofs.Common.{◌≡◌, Bool, true, ◌||◌, List, [], ◌∷◌, map, Ordering, Less, Equal, refl, sym, ap, subst, ◌∙◌}
use Rattle.std.specs.Cmp.{IsTotalOrder, IsEquivalence}
use Rattle.std.specs.FinMap.{IsAntisymmetric}
use Rattle.std.specs.List.{dedup, list_any, AllByRecursion}
use Rattle.std.specs.List.Retain.{IsFiltered, DiffersFromLast}
use Rattle.std.specs.List.Sorted.{IsPermutation, IsSorted, IsStrictlySortedBy}
use Rattle.std.specs.Ordering.{eq_by_cmp}
use Rattle.std.proofs.lemmas.List.Filters.{dedup_is}
use Rattle.std.proofs.lemmas.List.Folds.{Any-from_list_any, list_any_at}
use Rattle.std.proofs.lemmas.List.Kept.{Any-dedup, Contains-from_dedup, IsStrictlySortedBy-dedup}
use Rattle.std.proofs.lemmas.List.Sorted.{Contains-permutation, IsPermutation-sym}
use Rattle.tree_types.specs.Ascending.{ascending}
use Rattle.tree_types.proofs.Sorting.{bool_same, equal_from_is, same_sorted, sorted_ascending, has_ascending}

list_any_map : {X Y : Type 0} (p : Y → Bool) (f : X → Y) (xs : List X) → list_any p (map f xs) ≡ list_any (λ x. p (f x)) xs
list_any_map p f [] = refl
list_any_map p f (x ∷ xs) = ap (λ b. p (f x) || b) (list_any_map p f xs)

all_map : {X Y : Type 0} (P : Y → Type 0) (f : X → Y) (xs : List X) → AllByRecursion (λ x. P (f x)) xs → AllByRecursion P (map f xs)
all_map P f [] all = tt
all_map P f (x ∷ xs) all = (all.0, all_map P f xs all.1)

-- what sorting, and dropping what equals the one before, keep
module _ {T : Type 0} {C : T → T → Ordering} {E : T → T → Bool} (order_total : IsTotalOrder C) (equal : IsEquivalence E) (ties : (x y : T) → E x y ≡ eq_by_cmp C x y) where
  pub once_sorted : (sorted ys : List T) → IsSorted C sorted → IsFiltered (DiffersFromLast E) [] sorted ys → IsStrictlySortedBy C ys
  once_sorted sorted ys up once = subst (λ (l : List T). IsStrictlySortedBy C l) (sym (dedup_is E sorted ys once)) (IsStrictlySortedBy-dedup order_total ties sorted up)

  pub once_kept : (xs sorted ys : List T) → IsPermutation xs sorted → IsFiltered (DiffersFromLast E) [] sorted ys
      → (test : T → Bool) → ((x y : T) → C x y ≡ Equal → test x ≡ true → test y ≡ true) → list_any test ys ≡ list_any test xs
  once_kept xs sorted ys same once test alike =
      ap (list_any test) (dedup_is E sorted ys once)
      ∙ bool_same (list_any test (dedup E sorted)) (list_any test xs)
      (λ h.
      let a = Any-from_list_any test (dedup E sorted) h in
      let there = Contains-permutation sorted xs a.1 (IsPermutation-sym xs sorted same) (Contains-from_dedup E sorted a.1 (a.0, a.2, a.3)) in
      list_any_at test xs there.0 a.1 there.1 (ap test there.2 ∙ a.4))
      (λ h.
      let a = Any-from_list_any test xs h in
      let b = Any-dedup equal sorted a.1 (Contains-permutation xs sorted a.1 same (a.0, a.2, a.3)) in
      let tied : C a.1 b.1 ≡ Equal = equal_from_is (C a.1 b.1) (sym (ties a.1 b.1) ∙ b.4) in
      list_any_at test (dedup E sorted) b.0 b.1 b.2 (ap test b.3 ∙ alike a.1 b.1 tied a.4))

module _ {T S : Type 0} {R : S → S → Ordering} (seen : T → S) (total : IsTotalOrder R) (tells : IsAntisymmetric R) where
  abbrev order : T → T → Ordering
  order x y = R (seen x) (seen y)

  sorted_map : (xs : List T) → IsStrictlySortedBy order xs → IsStrictlySortedBy R (map seen xs)
  unfolding IsStrictlySortedBy
  sorted_map [] s = tt
  sorted_map (x ∷ xs) s = (all_map (λ z. R (seen x) z ≡ Less) seen xs s.0, sorted_map xs s.1)

  -- the same, as it is seen
  pub sorted_seen : {C : T → T → Ordering} (xs ys : List T) → IsStrictlySortedBy C ys
      → ((test : T → Bool) → ((x y : T) → C x y ≡ Equal → test x ≡ true → test y ≡ true) → list_any test ys ≡ list_any test xs)
      → ((x y : T) → C x y ≡ R (seen x) (seen y)) → map seen ys ≡ ascending R (map seen xs)
  sorted_seen xs ys up kept is =
      same_sorted total tells (map seen ys) (ascending R (map seen xs))
      (sorted_map ys (subst (λ (D : T → T → Ordering). IsStrictlySortedBy D ys) (λ i x y. is x y i) up)) (sorted_ascending total (map seen xs))
      (λ q.
      list_any_map (eq_by_cmp R q) seen ys
      ∙ kept (λ t. eq_by_cmp R q (seen t)) (λ x y e h. ap (eq_by_cmp R q) (sym (tells (seen x) (seen y) (sym (is x y) ∙ e))) ∙ h)
      ∙ sym (list_any_map (eq_by_cmp R q) seen xs) ∙ sym (has_ascending total tells q (map seen xs)))
