-- A list sorted, and each element kept once.
use Rattle.std.proofs.Common.{◌≡◌, Bool, true, List, [], Ordering, sym, ◌∙◌}
use Rattle.std.specs.Cmp.{IsTotalOrder, IsEquivalence}
use Rattle.std.specs.FinMap.{IsAntisymmetric}
use Rattle.std.specs.List.{dedup}
use Rattle.std.specs.List.Retain.{IsFiltered, DiffersFromLast}
use Rattle.std.specs.List.Sorted.{IsPermutation, IsSorted}
use Rattle.std.specs.Ordering.{eq_by_cmp}
use Rattle.std.proofs.lemmas.List.Filters.{dedup_is}
use Rattle.std.proofs.lemmas.List.Kept.{Contains-dedup, Contains-from_dedup, IsStrictlySortedBy-dedup}
use Rattle.std.proofs.lemmas.List.Sorted.{Contains-permutation, IsPermutation-sym}
use Rattle.tree_types.specs.Ascending.{ascending}
use Rattle.tree_types.proofs.Sorting.{has, bool_same, equal_from_is, same_sorted, sorted_ascending, has_ascending, has-from_Contains, Contains-from_has}

module _ {K : Type 0} {R : K → K → Ordering} {E : K → K → Bool} (total : IsTotalOrder R) (tells : IsAntisymmetric R) (equal : IsEquivalence E) (ties : (x y : K) → E x y ≡ eq_by_cmp R x y) where
  one_is : (x y : K) → E x y ≡ true → x ≡ y
  one_is x y e = tells x y (equal_from_is (R x y) (sym (ties x y) ∙ e))

  same_members : (xs sorted : List K) (q : K) → IsPermutation xs sorted → has R q (dedup E sorted) ≡ has R q (ascending R xs)
  same_members xs sorted q same =
      bool_same (has R q (dedup E sorted)) (has R q xs)
      (λ h. has-from_Contains total tells q xs (Contains-permutation sorted xs q (IsPermutation-sym xs sorted same) (Contains-from_dedup E sorted q (Contains-from_has total tells q (dedup E sorted) h))))
      (λ h. has-from_Contains total tells q (dedup E sorted) (Contains-dedup equal one_is sorted q (Contains-permutation xs sorted q same (Contains-from_has total tells q xs h))))
      ∙ sym (has_ascending total tells q xs)

  pub sorted_once : (xs sorted ys : List K) → IsPermutation xs sorted → IsSorted R sorted → IsFiltered (DiffersFromLast E) [] sorted ys → ys ≡ ascending R xs
  sorted_once xs sorted ys same up once =
      dedup_is E sorted ys once
      ∙ same_sorted total tells (dedup E sorted) (ascending R xs) (IsStrictlySortedBy-dedup total ties sorted up) (sorted_ascending total xs) (λ q. same_members xs sorted q same)
