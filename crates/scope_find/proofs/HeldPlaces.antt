-- The places that an item holds are taken out of a set, range by range.
use Rattle.std.proofs.Common.{◌≡◌, ℕ, ◌+◌, ◌<◌, ◌≤◌, Bool, true, false, ◌||◌, ltb, List, length, get_or, refl, sym, ap, ◌∙◌, subst, inl, inr, arith}
use Rattle.std.specs.List.{Contains, list_any}
use Rattle.std.specs.List.Sorted.{IsPartitionPoint}
use Rattle.std.proofs.lemmas.Bool.{cases_lt, ltb-true, ltb-false}
use Rattle.std.proofs.lemmas.List.{take_all}
use Rattle.std.proofs.lemmas.List.Folds.{list_any_more}
use Rattle.dwarf_inline.specs.declared.subroutine.Subroutine.{Subroutine}
use Rattle.dwarf_inline.specs.Structure.{ProgramStructure}
use Rattle.scope_find.specs.Found.{item_ranges, range_holds}
use Rattle.scope_find.specs.private.Places.{address_at, IsLowerBound, NoneLeft, AreTakenUpTo, AreHeldTaken, holds_place, held_so_far}
use Rattle.scope_find.proofs.Holding.{any_here, holds_from, start_below, below_end}

pub lower_bound_of : (addresses : List ℕ) (address place : ℕ) → place ≤ length addresses → IsPartitionPoint (λ (a : ℕ). ltb a address ≡ true) (λ a. ltb a address ≡ false) addresses place → IsLowerBound addresses address place
lower_bound_of addresses address place le point = record {
  within = le;
  below = λ k lt. ltb-true (get_or addresses k 0) address (point.0 k 0 (omega arith) lt);
  above = λ k from lt. ltb-false (get_or addresses k 0) address (point.1 k 0 from lt);
}

not_true : (b : Bool) → (b ≡ true → ⊥) → b ≡ false
not_true true never = absurd (never refl)
not_true false never = refl

neither : (a b : Bool) → a ≡ false → b ≡ false → a || b ≡ false
neither a b e f = rw (e, f) refl

module _ (s : ProgramStructure) (addresses : List ℕ) (item : Subroutine) (rs : List (ℕ × ℕ)) (are : rs ≡ item_ranges s item) (count : ℕ) (lt : count < length rs) (r : ℕ × ℕ) (at : get_or rs count r ≡ r) (low high : ℕ) (from : IsLowerBound addresses r.0 low) (to : IsLowerBound addresses r.1 high) where
  within_ranges : count < length (item_ranges s item)
  within_ranges = subst (λ (xs : List (ℕ × ℕ)). count < length xs) are lt

  range_here : get_or (item_ranges s item) count r ≡ r
  range_here = subst (λ (xs : List (ℕ × ℕ)). get_or xs count r ≡ r) are at

  held_between : (k : ℕ) → low ≤ k → k < high → holds_place s addresses item k ≡ true
  held_between k ge below =
      let w : high ≤ length addresses = to.within in
      any_here (range_holds (address_at addresses k)) (item_ranges s item) r (count, within_ranges, range_here) (holds_from (address_at addresses k) r (from.above k ge (omega arith)) (to.below k below))

  not_held : (k : ℕ) → k < length addresses → (low ≤ k → k < high → ⊥) → range_holds (address_at addresses k) r ≡ false
  not_held k within out = not_true (range_holds (address_at addresses k) r) (λ is. out (above is) (below is))
    where
      above : range_holds (address_at addresses k) r ≡ true → low ≤ k
      above is = elim (cases_lt k low) [
        | inr ge ↦ ge
        | inl less ↦ absurd (let a : r.0 ≤ address_at addresses k = start_below (address_at addresses k) r is in let b : address_at addresses k < r.0 = from.below k less in omega arith)
      ]

      below : range_holds (address_at addresses k) r ≡ true → k < high
      below is = elim (cases_lt k high) [
        | inl less ↦ less
        | inr ge ↦ absurd (let a : address_at addresses k < r.1 = below_end (address_at addresses k) r is in let b : r.1 ≤ address_at addresses k = to.above k ge within in omega arith)
      ]

  pub held_more : (before now after taken more : List ℕ) → ((k : ℕ) → Contains before k → k < length addresses) → AreTakenUpTo low high high now after taken more → AreHeldTaken s addresses item count before now taken → AreHeldTaken s addresses item (count + 1) before after more
  held_more before now after taken more within between so_far = record {
    are = between.takes (holds_place s addresses item) before held_between so_far.are;
    left = λ k has.
        let none : range_holds (address_at addresses k) (get_or (item_ranges s item) count r) ≡ false =
        ap (range_holds (address_at addresses k)) range_here ∙ not_held k (within k (so_far.are.keeps k (between.keeps k has))) (λ ge below. between.out k has ge below) in
        list_any_more (range_holds (address_at addresses k)) (item_ranges s item) count r within_ranges
        ∙ neither (held_so_far s addresses item count k) (range_holds (address_at addresses k) (get_or (item_ranges s item) count r)) (so_far.left k (between.keeps k has)) none;
  }

pub held_all : (s : ProgramStructure) (addresses : List ℕ) (item : Subroutine) (rs : List (ℕ × ℕ)) → rs ≡ item_ranges s item → (count : ℕ) → length rs ≤ count → (before now taken : List ℕ) → AreHeldTaken s addresses item count before now taken → NoneLeft (holds_place s addresses item) now
held_all s addresses item rs are count le before now taken so_far k has =
    ap (list_any (range_holds (address_at addresses k))) (sym (take_all count (item_ranges s item) (subst (λ (xs : List (ℕ × ℕ)). length xs ≤ count) are le))) ∙ so_far.left k has
