-- Splits in the order of their items: sorted, and the group of an item found by halving.
use Rattle.std.proofs.Common.{◌≡◌, ℕ, suc, ◌+◌, ◌-◌, ◌<◌, ◌≤◌, Bool, true, false, cond, not, ◌&&◌, List, [], ◌∷◌, ◌++◌, length, get_or, take, drop, map, filter, Ordering, Less, Equal, Greater, IsPermutation, is_eq, refl, sym, ap, ap₂, subst, ◌∙◌, arith, true≢false, append-nil, take_all, length-drop}
use Rattle.std.specs.List.{list_any}
use Rattle.std.specs.List.Sorted.{IsNonDecreasingBy, IsPartitionPoint, IsPartitionedBy, IsSortedByKey, IsStableByKey, ties}
use Rattle.std.specs.Ordering.{is_lt, is_le, ordering_index, ordering_reverse}
use Rattle.std.proofs.lemmas.List.{take-append-drop, get_or-take, get_or-drop, length-take-le}
use Rattle.std.proofs.lemmas.List.Elements.{filter-append}
use Rattle.std.proofs.lemmas.List.Folds.{Any-from_list_any}
use Rattle.std.proofs.lemmas.List.Sorted.{IsNonDecreasingBy-take, IsNonDecreasingBy-drop, list_any-IsPermutation, searchable_from_sorted}
use Rattle.tree_types.specs.declared.content.Content.{Content}
use Rattle.tree_types.proofs.Sorting.{equal_from_is}
use Rattle.view_tables.specs.declared.groups.item.ItemRef.{ItemRef}
use Rattle.view_tables.specs.declared.groups.occurrence.Occurrence.{Occurrence}
use Rattle.view_tables.specs.declared.groups.occurrence.Split.{Split}
use Rattle.view_tables.specs.declared.groups.occurrence.View.{View}
use Rattle.view_tables.specs.Views.{Item, item_order, same_item}
use Rattle.view_tables.specs.private.groups.Occurrences.{AreByItem, AreOccurrences, AreSplits, all_occurrences, cut_of, cuts, held, item_seen, of_item}
use Rattle.view_tables.proofs.grouping.Groups.{none_passes}
use Rattle.view_tables.proofs.grouping.Narrowed.{group, group_held, narrowed_more}
use Rattle.view_tables.proofs.ViewOrders.{item_order_total, item_order_tells}

abbrev pub key : Split → Item
key s = item_seen s.item

-- ---- sorted

tied : (o : Ordering) → (not (is_lt o) && not (is_lt (ordering_reverse o))) ≡ is_eq o
tied Less = refl
tied Equal = refl
tied Greater = refl

module _ (item : Item) (xs ys : List Split) (moved : IsPermutation xs ys) (stable : IsStableByKey key item_order xs ys) where
  abbrev of_this : Split → Bool
  of_this s = same_item item (key s)

  ties_are : (s : Split) → item ≡ key s → (y : Split) → ties (λ a b. is_lt (item_order (key a) (key b))) s y ≡ of_this y
  ties_are s is y =
      ap (λ o. not (is_lt (item_order (key s) (key y))) && not (is_lt o)) (item_order_total.antisymm (key y) (key s))
      ∙ tied (item_order (key s) (key y)) ∙ ap (λ (a : Item). is_eq (item_order a (key y))) (sym is)

  pub group_stays : group item ys ≡ group item xs
  group_stays = elim (list_any of_this xs) as (λ b. list_any of_this xs ≡ b → group item ys ≡ group item xs) [
    | true ↦ λ e.
        let a = Any-from_list_any of_this xs e in
        let is : item ≡ key a.1 = item_order_tells item (key a.1) (equal_from_is (item_order item (key a.1)) a.4) in
        (λ i. filter (λ y. sym (ties_are a.1 is y) i) ys) ∙ stable a.1 ∙ (λ i. filter (λ y. ties_are a.1 is y i) xs)
    | false ↦ λ e. none_passes of_this ys (sym (list_any-IsPermutation of_this xs ys moved) ∙ e) ∙ sym (none_passes of_this xs e)
  ] refl

pub sorted_splits : (view : View) (c : Content) (chain : List Item) (occurrences : List Occurrence) (xs ys : List Split) → AreOccurrences view c chain occurrences → map (cut_of view c) xs ≡ cuts (map (held view c) occurrences)
    → IsPermutation xs ys → IsStableByKey key item_order xs ys → AreSplits view c chain ys
sorted_splits view c chain occurrences xs ys are cut moved stable item =
    sym (group_held view c item ys) ∙ ap (map (λ (s : Split). held view c s.rest)) (group_stays item xs ys moved stable) ∙ group_held view c item xs
    ∙ ap (of_item item) (cut ∙ ap cuts are) ∙ sym (narrowed_more chain item (all_occurrences view c))

-- ---- as items of the code compare

module _ {C : ItemRef → ItemRef → Ordering} (compares : (x y : ItemRef) → C x y ≡ item_order (item_seen x) (item_seen y)) where
  pub stable_seen : (xs ys : List Split) → IsStableByKey (λ s. s.item) C xs ys → IsStableByKey key item_order xs ys
  stable_seen xs ys stable x =
      subst (λ (D : ItemRef → ItemRef → Ordering). filter (ties (λ (a b : Split). is_lt (D a.item b.item)) x) ys ≡ filter (ties (λ (a b : Split). is_lt (D a.item b.item)) x) xs) (λ i a b. compares a b i) (stable x)

  pub sorted_seen : (xs : List Split) → IsSortedByKey (λ s. s.item) C xs → AreByItem xs
  sorted_seen xs up k d low high =
      subst (λ (D : ItemRef → ItemRef → Ordering). is_lt (D (get_or xs (k + 1) d).item (get_or xs k d).item) ≡ false) (λ i a b. compares a b i) (up k d low high)

-- ---- halved

filter_all : {X : Type 0} (t : X → Bool) (xs : List X) → ((k : ℕ) (d : X) → k < length xs → t (get_or xs k d) ≡ true) → filter t xs ≡ xs
filter_all t [] all = refl
filter_all {X} t (x ∷ xs) all = ap (λ b. cond b (x ∷ filter t xs) (filter t xs)) (all 0 x (omega arith)) ∙ ap (λ (l : List X). x ∷ l) (filter_all t xs (λ k d lt. all (suc k) d (omega arith)))

filter_none : {X : Type 0} (t : X → Bool) (xs : List X) → ((k : ℕ) (d : X) → k < length xs → t (get_or xs k d) ≡ false) → filter t xs ≡ []
filter_none t [] all = refl
filter_none t (x ∷ xs) all = ap (λ b. cond b (x ∷ filter t xs) (filter t xs)) (all 0 x (omega arith)) ∙ filter_none t xs (λ k d lt. all (suc k) d (omega arith))

-- an element by its order to the item
abbrev pub to_item : Item → Split → Ordering
to_item item s = item_order (key s) item

low_index : (o p : Ordering) → ordering_index o ≤ ordering_index p → is_lt p ≡ true → is_lt o ≡ true
low_index Less p le e = refl
low_index Equal Less le e = absurd (omega arith)
low_index Equal Equal le e = absurd (true≢false (sym e))
low_index Equal Greater le e = absurd (true≢false (sym e))
low_index Greater Less le e = absurd (omega arith)
low_index Greater Equal le e = absurd (true≢false (sym e))
low_index Greater Greater le e = absurd (true≢false (sym e))

not_above : (o p : Ordering) → ordering_index o ≤ ordering_index p → is_le p ≡ true → is_le o ≡ true
not_above Less p le e = refl
not_above Equal p le e = refl
not_above Greater Less le e = absurd (omega arith)
not_above Greater Equal le e = absurd (omega arith)
not_above Greater Greater le e = absurd (true≢false (sym e))

pub orders_rise : (item : Item) (xs : List Split) → AreByItem xs → IsNonDecreasingBy (λ s. ordering_index (to_item item s)) xs
orders_rise item xs up = searchable_from_sorted item_order_total key xs item up

pub parted_below : (item : Item) (xs : List Split) → IsNonDecreasingBy (λ s. ordering_index (to_item item s)) xs → IsPartitionedBy (λ s. is_lt (to_item item s)) xs
parted_below item xs rise i j d le lt e = low_index (to_item item (get_or xs i d)) (to_item item (get_or xs j d)) (rise i j d le lt) e

pub parted_within : (item : Item) (xs : List Split) → IsNonDecreasingBy (λ s. ordering_index (to_item item s)) xs → IsPartitionedBy (λ s. is_le (to_item item s)) xs
parted_within item xs rise i j d le lt e = not_above (to_item item (get_or xs i d)) (to_item item (get_or xs j d)) (rise i j d le lt) e

pub rest_rises : (item : Item) (xs : List Split) (start : ℕ) → AreByItem xs → IsNonDecreasingBy (λ s. ordering_index (to_item item s)) (take (length xs - start) (drop start xs))
rest_rises item xs start up =
    IsNonDecreasingBy-take (λ (s : Split). ordering_index (to_item item s)) (length xs - start) (drop start xs)
    (IsNonDecreasingBy-drop (λ (s : Split). ordering_index (to_item item s)) start xs (orders_rise item xs up))

turned : (item : Item) (s : Split) → same_item item (key s) ≡ is_eq (to_item item s)
turned item s = ap is_eq (item_order_total.antisymm item (key s)) ∙ back (to_item item s)
  where
    back : (o : Ordering) → is_eq (ordering_reverse o) ≡ is_eq o
    back Less = refl
    back Equal = refl
    back Greater = refl

below_is_other : (o : Ordering) → is_lt o ≡ true → is_eq o ≡ false
below_is_other Less e = refl
below_is_other Equal e = absurd (true≢false (sym e))
below_is_other Greater e = refl

above_is_other : (o : Ordering) → is_le o ≡ false → is_eq o ≡ false
above_is_other Less e = refl
above_is_other Equal e = absurd (true≢false e)
above_is_other Greater e = refl

between_is_equal : (o : Ordering) → is_lt o ≡ false → is_le o ≡ true → is_eq o ≡ true
between_is_equal Less e f = absurd (true≢false e)
between_is_equal Equal e f = refl
between_is_equal Greater e f = absurd (true≢false (sym f))

-- what two searches leave is the group
pub group_found : (item : Item) (xs : List Split) (start count : ℕ) → start ≤ length xs → count ≤ length (take (length xs - start) (drop start xs))
    → IsPartitionPoint (λ s. is_lt (to_item item s) ≡ true) (λ s. is_lt (to_item item s) ≡ false) xs start
    → IsPartitionPoint (λ s. is_le (to_item item s) ≡ true) (λ s. is_le (to_item item s) ≡ false) (take (length xs - start) (drop start xs)) count
    → take count (take (length xs - start) (drop start xs)) ≡ group item xs
group_found item xs start count start_le count_le first second =
    let t : Split → Bool = λ s. same_item item (key s) in
    let tail : List Split = drop start xs in
    let rest : List Split = take (length xs - start) tail in
    let tail_long = length-drop start xs in
    let rest_is : rest ≡ tail = take_all (length xs - start) tail (omega (arith, tail_long)) in
    let rest_long = ap (λ (l : List Split). length l) rest_is in
    let front_none : filter t (take start xs) ≡ [] = filter_none t (take start xs) (λ k d lt.
    let long = length-take-le start xs start_le in
    let below : is_lt (to_item item (get_or (take start xs) k d)) ≡ true = ap (λ (s : Split). is_lt (to_item item s)) (get_or-take start xs k d (omega (arith, lt, long))) ∙ first.0 k d (omega arith) (omega (arith, lt, long)) in
    turned item (get_or (take start xs) k d) ∙ below_is_other (to_item item (get_or (take start xs) k d)) below) in
    let at_least : (k : ℕ) (d : Split) → k < length rest → is_lt (to_item item (get_or rest k d)) ≡ false = λ k d lt.
    (let at : get_or rest k d ≡ get_or xs (start + k) d = ap (λ (l : List Split). get_or l k d) rest_is ∙ get_or-drop start xs k d in
    ap (λ (s : Split). is_lt (to_item item s)) at ∙ first.1 (start + k) d (omega arith) (omega (arith, lt, rest_long, tail_long))) in
    let middle_all : filter t (take count rest) ≡ take count rest = filter_all t (take count rest) (λ k d lt.
    let long = length-take-le count rest count_le in
    let at : get_or (take count rest) k d ≡ get_or rest k d = get_or-take count rest k d (omega (arith, lt, long)) in
    ap (λ (s : Split). same_item item (key s)) at ∙ turned item (get_or rest k d)
    ∙ between_is_equal (to_item item (get_or rest k d)) (at_least k d (omega (arith, lt, long, count_le))) (second.0 k d (omega arith) (omega (arith, lt, long)))) in
    let end_none : filter t (drop count rest) ≡ [] = filter_none t (drop count rest) (λ k d lt.
    let long = length-drop count rest in
    let at : get_or (drop count rest) k d ≡ get_or rest (count + k) d = get_or-drop count rest k d in
    ap (λ (s : Split). same_item item (key s)) at ∙ turned item (get_or rest (count + k) d)
    ∙ above_is_other (to_item item (get_or rest (count + k) d)) (second.1 (count + k) d (omega arith) (omega (arith, lt, long)))) in
    sym (ap (filter t) (sym (take-append-drop start xs)) ∙ filter-append t (take start xs) tail ∙ ap₂ (λ (a b : List Split). a ++ b) front_none
    (ap (filter t) (sym rest_is ∙ sym (take-append-drop count rest)) ∙ filter-append t (take count rest) (drop count rest)
    ∙ ap₂ (λ (a b : List Split). a ++ b) middle_all end_none ∙ append-nil (take count rest)))

pub ruleset sort_steps = (sorted_splits)
