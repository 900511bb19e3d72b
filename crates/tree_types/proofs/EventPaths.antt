-- The call paths of one event.
use Rattle.std.proofs.Common.{◌≡◌, ℕ, zero, suc, ◌*◌, ◌/◌, ◌<◌, ◌≤◌, ◌==◌, ◌&&◌, ◌||◌, Bool, true, false, cond, List, [], ◌∷◌, length, map, filter, All, Contains, count_by, sum, sum_by, refl, sym, ap, ◌∙◌, arith}
use Rattle.std.specs.List.{list_any, AllByRecursion}
use Rattle.std.specs.List.Sorted.{IsStrictlySortedBy}
use Rattle.std.specs.Ordering.{eq_by_cmp}
use Rattle.std.proofs.lemmas.Cmp.{eq_by_cmp_equiv}
use Rattle.std.proofs.lemmas.List.{length-map}
use Rattle.std.proofs.lemmas.List.Elements.{All-filter, All-map, All-weaker}
use Rattle.std.proofs.lemmas.List.Sums.{count_by-le-length, length-filter, sum_by-cons}
use Rattle.std.proofs.lemmas.Nat.{div_below}
use Rattle.scope_types.specs.Alike.{Alike}
use Rattle.scope_types.specs.CallPaths.{ColumnPath}
use Rattle.scope_types.specs.Columns.{columns_of, hart_of_column, paths_of_event, place_of_column}
use Rattle.scope_types.specs.Order.{path_order}
use Rattle.scope_types.proofs.Orders.{path_order_total, path_order_tells}
use Rattle.tree_types.specs.Nodes.{nodes}
use Rattle.tree_types.specs.Paths.{Path, prefixes}
use Rattle.tree_types.proofs.Counting.{one, count_by-filter, count_none, count_once, sums_swap}
use Rattle.tree_types.proofs.NamesAgain.{each}
use Rattle.tree_types.proofs.NodeLaws.{has_nodes, sorted_nodes}
use Rattle.tree_types.proofs.PathsAgain.{sum_by-map}
use Rattle.tree_types.proofs.Sorting.{has, has-from_Contains, Contains-from_has}

-- ---- ascending lists within one another

or_true : (b : Bool) → (b || true) ≡ true
or_true true = refl
or_true false = refl

any_as_well : {X : Type 0} (t : X → Bool) (x : X) (xs : List X) → list_any t xs ≡ true → list_any t (x ∷ xs) ≡ true
any_as_well t x xs e = ap (λ b. t x || b) e ∙ or_true (t x)

few_tied : (y : Path) (xs : List Path) → IsStrictlySortedBy path_order xs → count_by (λ x. eq_by_cmp path_order x y) xs ≤ 1
few_tied y xs sorted =
    let turned : count_by (λ x. eq_by_cmp path_order x y) xs ≡ count_by (eq_by_cmp path_order y) xs = λ i. count_by (λ x. (eq_by_cmp_equiv path_order_total).symm x y i) xs in
    elim (has path_order y xs) as (λ b. has path_order y xs ≡ b → count_by (λ x. eq_by_cmp path_order x y) xs ≤ 1) [
      | true ↦ λ there. let once = count_once path_order_tells y xs sorted there in omega (arith, turned, once)
      | false ↦ λ absent. let none = count_none (eq_by_cmp path_order y) xs absent in omega (arith, turned, none)
    ] refl

all_once : (ys : List Path) → IsStrictlySortedBy path_order ys → (xs : List Path) → AllByRecursion (λ x. has path_order x ys ≡ true) xs → sum_by (λ x. count_by (eq_by_cmp path_order x) ys) xs ≡ length xs
all_once ys sorted [] all = refl
all_once ys sorted (x ∷ xs) all =
    let first = sum_by-cons (λ x. count_by (eq_by_cmp path_order x) ys) x xs in
    let once = count_once path_order_tells x ys sorted all.0 in
    let rest = all_once ys sorted xs all.1 in
    omega (arith, first, once, rest)

most_once : (xs : List Path) → IsStrictlySortedBy path_order xs → (ys : List Path) → sum_by (λ y. count_by (λ x. eq_by_cmp path_order x y) xs) ys ≤ length ys
most_once xs sorted [] = omega arith
most_once xs sorted (y ∷ ys) =
    let first = sum_by-cons (λ y. count_by (λ x. eq_by_cmp path_order x y) xs) y ys in
    let few = few_tied y xs sorted in
    let rest = most_once xs sorted ys in
    omega (arith, first, few, rest)

-- an ascending list whose elements another one has is no longer than that
no_longer : (xs ys : List Path) → IsStrictlySortedBy path_order xs → IsStrictlySortedBy path_order ys → AllByRecursion (λ x. has path_order x ys ≡ true) xs → length xs ≤ length ys
no_longer xs ys a b all =
    let here = all_once ys b xs all in
    let there = most_once xs a ys in
    let swapped = sums_swap (λ x y. eq_by_cmp path_order x y) xs ys in
    omega (arith, here, there, swapped)

-- ---- the paths of the event at a place

module _ (events place : ℕ) where
  abbrev of_event : ColumnPath → Bool
  of_event p = place_of_column events p.column == place

  abbrev at_hart : ColumnPath → ColumnPath
  at_hart p = record { column = hart_of_column events p.column; path = p.path }

  counted : (t : ColumnPath → Bool) (ps : List ColumnPath) → count_by t (paths_of_event events place ps) ≡ count_by (λ p. of_event p && t (at_hart p)) ps
  counted t ps = sum_by-map (λ p. one (t p)) at_hart (filter of_event ps) ∙ count_by-filter of_event (λ p. t (at_hart p)) ps

  pub event_alike : (ps qs : List ColumnPath) → Alike ps qs → Alike (paths_of_event events place ps) (paths_of_event events place qs)
  event_alike ps qs alike = record { same = λ t. counted t ps ∙ alike.same (λ p. of_event p && t (at_hart p)) ∙ sym (counted t qs) }

  pub event_some : (ps : List ColumnPath) → All (λ p. 0 < length p.path) ps → All (λ p. 0 < length p.path) (paths_of_event events place ps)
  event_some ps some = All-map (λ (p : ColumnPath). 0 < length p.path) at_hart (filter of_event ps) (All-filter of_event (λ p. 0 < length p.path) ps some)

  pub event_below : (runs : List ℕ) (ps : List ColumnPath) → All (λ p. p.column < columns_of events runs) ps → All (λ p. p.column < sum runs) (paths_of_event events place ps)
  event_below runs ps below =
      All-map (λ (p : ColumnPath). p.column < sum runs) at_hart (filter of_event ps)
      (All-filter of_event (λ p. hart_of_column events p.column < sum runs) ps
      (All-weaker (λ (p : ColumnPath). p.column < columns_of events runs) (λ p. hart_of_column events p.column < sum runs) (λ p lt. hart_below (sum runs) events p.column lt) ps below))
    where
      no_times : (n : ℕ) → n * 0 ≡ 0
      no_times n = omega arith

      hart_below : (harts events column : ℕ) → column < harts * events → column / events < harts
      hart_below harts zero column lt = absurd (let none = no_times harts in omega (arith, lt, none))
      hart_below harts (suc events) column lt = div_below column (suc events) harts (omega arith) lt

  pub event_count : (ps : List ColumnPath) → length (paths_of_event events place ps) ≤ length ps
  event_count ps =
      let long = length-map (filter of_event ps) at_hart in
      let kept = length-filter of_event ps in
      let few = count_by-le-length of_event ps in
      omega (arith, long, kept, few)

  any_of_event : (t : Path → Bool) (ps : List ColumnPath) → list_any (λ p. t p.path) (paths_of_event events place ps) ≡ true → list_any (λ p. t p.path) ps ≡ true
  any_of_event t [] e = e
  any_of_event t (p ∷ ps) e =
      elim (of_event p) as (λ b. list_any (λ p. t p.path) (map at_hart (cond b (p ∷ filter of_event ps) (filter of_event ps))) ≡ true → list_any (λ p. t p.path) (p ∷ ps) ≡ true) [
        | true ↦ λ k. elim (t p.path) as (λ b. (b || list_any (λ p. t p.path) (paths_of_event events place ps)) ≡ true → (b || list_any (λ p. t p.path) ps) ≡ true) [
          | true ↦ λ h. refl
          | false ↦ λ h. any_of_event t ps h
        ] k
        | false ↦ λ k. any_as_well (λ (p : ColumnPath). t p.path) p ps (any_of_event t ps k)
      ] e

  -- each node of the event's paths is one of all paths
  event_has : (ps : List ColumnPath) (n : Path) → has path_order n (nodes (paths_of_event events place ps)) ≡ true → has path_order n (nodes ps) ≡ true
  event_has ps n e = has_nodes ps n ∙ any_of_event (λ path. has path_order n (prefixes path)) ps (sym (has_nodes (paths_of_event events place ps) n) ∙ e)

  pub event_within : (ps : List ColumnPath) (n : Path) → Contains (nodes (paths_of_event events place ps)) n → Contains (nodes ps) n
  event_within ps n c =
      Contains-from_has path_order_total path_order_tells n (nodes ps)
      (event_has ps n (has-from_Contains path_order_total path_order_tells n (nodes (paths_of_event events place ps)) c))

  pub event_nodes : (ps : List ColumnPath) → length (nodes (paths_of_event events place ps)) ≤ length (nodes ps)
  event_nodes ps =
      no_longer (nodes (paths_of_event events place ps)) (nodes ps) (sorted_nodes (paths_of_event events place ps)) (sorted_nodes ps)
      (each (λ n. has path_order n (nodes ps) ≡ true) (nodes (paths_of_event events place ps)) (λ n c.
      event_has ps n (has-from_Contains path_order_total path_order_tells n (nodes (paths_of_event events place ps)) c)))

pub ruleset path_laws = (event_alike, event_some, event_below, event_count, event_nodes)
