-- The rows of the groups of splits.
use Rattle.std.proofs.Common.{◌≡◌, ℕ, ◌+◌, ◌*◌, ◌<◌, ◌≤◌, ◌==◌, Bool, true, false, cond, ◌&&◌, ◌||◌, not, List, [], ◌∷◌, ◌++◌, length, get_or, take, map, filter, count_by, Contains, refl, sym, ap, ◌∙◌, arith, true≢false, append-nil}
use Rattle.std.specs.List.{flat_map, list_any}
use Rattle.std.specs.Ordering.{eq_by_cmp}
use Rattle.std.proofs.lemmas.Bool.{and_parts, eq-eqb, ne_eqb, or_right}
use Rattle.std.proofs.lemmas.List.{take_more, map-append, take_all}
use Rattle.std.proofs.lemmas.List.Elements.{filter-append}
use Rattle.std.proofs.lemmas.List.Folds.{Any-from_list_any, list_any_at, list_any-append}
use Rattle.tree_types.specs.Ascending.{ascending}
use Rattle.tree_types.specs.declared.content.Content.{Content}
use Rattle.tree_types.specs.OfContent.{IsProfile}
use Rattle.tree_types.proofs.Counting.{count_none}
use Rattle.tree_types.proofs.Selecting.{map_of_map}
use Rattle.tree_types.proofs.Sorting.{has, bool_same, same_ascending, has_ascending, Contains-from_has}
use Rattle.view_tables.specs.declared.groups.frames.Frames.{Frames}
use Rattle.view_tables.specs.declared.groups.item.ItemRef.{ItemRef}
use Rattle.view_tables.specs.declared.groups.item.RowRef.{RowRef}
use Rattle.view_tables.specs.declared.groups.occurrence.Split.{Split}
use Rattle.view_tables.specs.declared.groups.occurrence.View.{View}
use Rattle.view_tables.specs.Views.{Item, ViewRow, Sequences, all_items, begins_with, holds_chain, item_order, row_at, row_order, rows_under, same_item}
use Rattle.view_tables.specs.private.groups.Frames.{AreFrames, covered}
use Rattle.view_tables.specs.private.groups.Occurrences.{AreSplits, item_seen, items_seen, row_seen, content_samples}
use Rattle.view_tables.proofs.grouping.Narrowed.{group, group_covers, group_frames}
use Rattle.view_tables.proofs.ViewOrders.{item_order_total, item_order_tells, row_order_total, row_order_tells}

-- ---- the rows of a chain

-- the items that are in some sequence
list_any_flat : {X Y : Type 0} (p : Y → Bool) (f : X → List Y) (xs : List X) → list_any p (flat_map f xs) ≡ list_any (λ x. list_any p (f x)) xs
list_any_flat p f [] = refl
list_any_flat p f (x ∷ xs) = list_any-append p (f x) (flat_map f xs) ∙ ap (λ b. list_any p (f x) || b) (list_any_flat p f xs)

list_any_map : {X Y : Type 0} (p : Y → Bool) (f : X → Y) (xs : List X) → list_any p (map f xs) ≡ list_any (λ x. p (f x)) xs
list_any_map p f [] = refl
list_any_map p f (x ∷ xs) = ap (λ b. p (f x) || b) (list_any_map p f xs)

or_parts : (a b a' b' : Bool) → (a ≡ true → a' ≡ true) → (b ≡ true → b' ≡ true) → (a || b) ≡ true → (a' || b') ≡ true
or_parts true b a' b' f g e = ap (λ x. x || b') (f refl)
or_parts false b a' b' f g e = or_right a' b' (g e)

list_any_weaker : {X : Type 0} (p q : X → Bool) → ((x : X) → p x ≡ true → q x ≡ true) → (xs : List X) → list_any p xs ≡ true → list_any q xs ≡ true
list_any_weaker p q f [] h = h
list_any_weaker p q f (x ∷ xs) h = or_parts (p x) (list_any p xs) (q x) (list_any q xs) (f x) (list_any_weaker p q f xs) h

inside : (chain : List Item) (item : Item) (items : List Item) → begins_with (chain ++ item ∷ []) items ≡ true → list_any (same_item item) items ≡ true
inside [] item [] h = absurd (true≢false (sym h))
inside [] item (b ∷ items) h = ap (λ t. t || list_any (same_item item) items) (and_parts (same_item item b) true h).0
inside (a ∷ chain) item [] h = absurd (true≢false (sym h))
inside (a ∷ chain) item (b ∷ items) h = or_right (same_item item b) (list_any (same_item item) items) (inside chain item items (and_parts (same_item a b) (begins_with (chain ++ item ∷ []) items) h).1)

any_if_counted : {X : Type 0} (p : X → Bool) (xs : List X) → (count_by p xs ≡ 0 → ⊥) → list_any p xs ≡ true
any_if_counted p xs some = elim (list_any p xs) as (λ b. list_any p xs ≡ b → b ≡ true) [ true ↦ λ e. refl | false ↦ λ e. absurd (some (count_none p xs e)) ] refl

nonzero : (value : ℕ) → not (value == 0) ≡ true → value ≡ 0 → ⊥
nonzero value h e = true≢false (sym h ∙ ap (λ (k : ℕ). not (k == 0)) e)

nonzero_count : (period count : ℕ) → not (period * count == 0) ≡ true → count ≡ 0 → ⊥
nonzero_count period count h e = nonzero (period * count) h (ap (λ (k : ℕ). period * k) e ∙ (let z : period * 0 ≡ 0 = omega arith in z))

pub none_passes : {X : Type 0} (p : X → Bool) (xs : List X) → list_any p xs ≡ false → filter p xs ≡ []
none_passes p [] h = refl
none_passes p (x ∷ xs) h = elim (p x) as (λ b. (b || list_any p xs) ≡ false → cond b (x ∷ filter p xs) (filter p xs) ≡ []) [
  | true ↦ λ e. absurd (true≢false e)
  | false ↦ λ e. none_passes p xs e
] h

any_both : {X : Type 0} (t : X → Bool) (xs ys : List X) → ((x : X) → t x ≡ true → Contains ys x) → list_any t xs ≡ true → list_any t ys ≡ true
any_both t xs ys inside h =
    let a = Any-from_list_any t xs h in
    let there = inside a.1 a.4 in
    list_any_at t ys there.0 a.1 there.1 (ap t there.2 ∙ a.4)

module _ (view : View) (c : Content) (chain : List Item) (splits : List Split) (profile : IsProfile c) (frames : Frames) (all : AreFrames view c frames) (are : AreSplits view c chain splits) where
  abbrev samples : List Sequences
  samples = content_samples view c

  abbrev row : Item → ViewRow
  row = row_at c.period samples chain

  abbrev some : ViewRow → Bool
  some r = not (r.inclusive == 0)

  abbrev found : List Item
  found = ascending item_order (map (λ s. item_seen s.item) splits)

  in_samples : (item : Item) → some (row item) ≡ true → Contains (all_items samples) item
  in_samples item h =
      let counts : list_any (holds_chain (chain ++ item ∷ [])) samples ≡ true = any_if_counted (holds_chain (chain ++ item ∷ [])) samples (nonzero_count c.period (count_by (holds_chain (chain ++ item ∷ [])) samples) h) in
      let deep : list_any (λ sample. list_any (λ items. list_any (same_item item) items) sample) samples ≡ true =
      list_any_weaker (holds_chain (chain ++ item ∷ [])) (λ sample. list_any (λ items. list_any (same_item item) items) sample)
      (λ sample. list_any_weaker (begins_with (chain ++ item ∷ [])) (λ items. list_any (same_item item) items) (inside chain item) sample) samples counts in
      let flat_one : (sample : Sequences) → list_any (same_item item) (flat_map (λ items. items) sample) ≡ list_any (λ items. list_any (same_item item) items) sample = λ sample. list_any_flat (same_item item) (λ (items : List Item). items) sample in
      Contains-from_has item_order_total item_order_tells item (all_items samples)
      (list_any_flat (same_item item) (λ (sample : Sequences). flat_map (λ items. items) sample) samples ∙ (λ i. list_any (λ sample. flat_one sample i) samples) ∙ deep)

  in_found : (item : Item) → some (row item) ≡ true → Contains found item
  in_found item h =
      let value = group_covers view c chain item splits (group item splits) are refl profile frames all in
      let there : list_any (λ (s : Split). same_item item (item_seen s.item)) splits ≡ true =
      elim (list_any (λ (s : Split). same_item item (item_seen s.item)) splits) as (λ b. list_any (λ (s : Split). same_item item (item_seen s.item)) splits ≡ b → b ≡ true) [
        | true ↦ λ e. refl
        | false ↦ λ e. absurd (nonzero (c.period * count_by (holds_chain (chain ++ item ∷ [])) samples) h
            (sym value ∙ ap (λ (ss : List Split). covered frames.ends.items frames.sums.items 0 (group_frames ss)) (none_passes (λ (s : Split). same_item item (item_seen s.item)) splits e)))
      ] refl in
      Contains-from_has item_order_total item_order_tells item found
      (has_ascending item_order_total item_order_tells item (map (λ (s : Split). item_seen s.item) splits) ∙ list_any_map (same_item item) (λ (s : Split). item_seen s.item) splits ∙ there)

  abbrev rows : List Item → List ViewRow
  rows items = filter some (map row items)

  abbrev is_row : ViewRow → Item → Bool
  is_row q item = some (row item) && eq_by_cmp row_order q (row item)

  has_row : (q : ViewRow) (items : List Item) → has row_order q (rows items) ≡ list_any (is_row q) items
  has_row q [] = refl
  has_row q (x ∷ xs) = elim (some (row x)) as (λ b. has row_order q (cond b (row x ∷ rows xs) (rows xs)) ≡ ((b && eq_by_cmp row_order q (row x)) || list_any (is_row q) xs)) [
    | true ↦ ap (λ b. eq_by_cmp row_order q (row x) || b) (has_row q xs)
    | false ↦ has_row q xs
  ]

  same_rows : (q : ViewRow) → list_any (is_row q) found ≡ list_any (is_row q) (all_items samples)
  same_rows q =
      bool_same (list_any (is_row q) found) (list_any (is_row q) (all_items samples))
      (any_both (is_row q) found (all_items samples) (λ item h. in_samples item (and_parts (some (row item)) (eq_by_cmp row_order q (row item)) h).0))
      (any_both (is_row q) (all_items samples) found (λ item h. in_found item (and_parts (some (row item)) (eq_by_cmp row_order q (row item)) h).0))

  pub rows_found : ascending row_order (rows found) ≡ rows_under c.period samples chain
  unfolding rows_under
  rows_found = same_ascending row_order_total row_order_tells (rows found) (rows (all_items samples)) (λ q. has_row q found ∙ same_rows q ∙ sym (has_row q (all_items samples)))

-- ---- the rows of items, one after another

abbrev pub is_some : ViewRow → Bool
is_some r = not (r.inclusive == 0)

-- the row of an item
abbrev pub row_of_item : View → Content → List ItemRef → ItemRef → ViewRow
row_of_item view c chain item = row_at c.period (content_samples view c) (items_seen chain) (item_seen item)

abbrev pub rows_so_far : View → Content → List ItemRef → List RowRef → List ItemRef → Type 0
rows_so_far view c chain rows items = map row_seen rows ≡ filter is_some (map (row_of_item view c chain) items)

module _ (view : View) (c : Content) (chain : List ItemRef) where
  one_more : (items : List ItemRef) (i : ℕ) (item : ItemRef) → i < length items → item ≡ get_or items i item
      → filter is_some (map (row_of_item view c chain) (take (i + 1) items)) ≡ filter is_some (map (row_of_item view c chain) (take i items)) ++ filter is_some (row_of_item view c chain item ∷ [])
  one_more items i item lt is =
      ap (λ (l : List ItemRef). filter is_some (map (row_of_item view c chain) l)) (take_more items i item lt)
      ∙ ap (filter is_some) (map-append (row_of_item view c chain) (take i items) (get_or items i item ∷ []))
      ∙ filter-append is_some (map (row_of_item view c chain) (take i items)) (row_of_item view c chain (get_or items i item) ∷ [])
      ∙ ap (λ (x : ItemRef). filter is_some (map (row_of_item view c chain) (take i items)) ++ filter is_some (row_of_item view c chain x ∷ [])) (sym is)

  pub row_put : (rows : List RowRef) (items : List ItemRef) (i : ℕ) (item : ItemRef) (r : RowRef) → i < length items → item ≡ get_or items i item
      → row_seen r ≡ row_of_item view c chain item → (r.inclusive.0 ≡ 0 → ⊥) → rows_so_far view c chain rows (take i items) → rows_so_far view c chain (rows ++ r ∷ []) (take (i + 1) items)
  row_put rows items i item r lt is one above so_far =
      map-append row_seen rows (r ∷ []) ∙ ap (λ (l : List ViewRow). l ++ row_seen r ∷ []) so_far
      ∙ ap (λ b. filter is_some (map (row_of_item view c chain) (take i items)) ++ cond b (row_seen r ∷ []) []) (sym (ap not (ne_eqb r.inclusive.0 0 above)))
      ∙ ap (λ (x : ViewRow). filter is_some (map (row_of_item view c chain) (take i items)) ++ filter is_some (x ∷ [])) one
      ∙ sym (one_more items i item lt is)

  pub row_pass : (rows : List RowRef) (items : List ItemRef) (i : ℕ) (item : ItemRef) (r : RowRef) → i < length items → item ≡ get_or items i item
      → row_seen r ≡ row_of_item view c chain item → r.inclusive.0 ≡ 0 → rows_so_far view c chain rows (take i items) → rows_so_far view c chain rows (take (i + 1) items)
  row_pass rows items i item r lt is one nothing so_far =
      so_far ∙ sym (append-nil (filter is_some (map (row_of_item view c chain) (take i items))))
      ∙ ap (λ b. filter is_some (map (row_of_item view c chain) (take i items)) ++ cond b (row_seen r ∷ []) []) (sym (ap not (eq-eqb r.inclusive.0 0 nothing)))
      ∙ ap (λ (x : ViewRow). filter is_some (map (row_of_item view c chain) (take i items)) ++ filter is_some (x ∷ [])) one
      ∙ sym (one_more items i item lt is)

  pub rows_all : (rows : List RowRef) (items : List ItemRef) (i : ℕ) → length items ≤ i → rows_so_far view c chain rows (take i items)
      → map row_seen rows ≡ filter is_some (map (row_at c.period (content_samples view c) (items_seen chain)) (items_seen items))
  rows_all rows items i le so_far =
      so_far ∙ ap (λ (l : List ItemRef). filter is_some (map (row_of_item view c chain) l)) (take_all i items le)
      ∙ ap (filter is_some) (sym (map_of_map (row_at c.period (content_samples view c) (items_seen chain)) item_seen items))

  pub rows_are : (splits : List Split) (items : List ItemRef) (rows sorted : List RowRef) (frames : Frames) → IsProfile c → AreFrames view c frames → AreSplits view c (items_seen chain) splits
      → items_seen items ≡ ascending item_order (map (λ s. item_seen s.item) splits)
      → map row_seen rows ≡ filter is_some (map (row_at c.period (content_samples view c) (items_seen chain)) (items_seen items))
      → map row_seen sorted ≡ ascending row_order (map row_seen rows)
      → map row_seen sorted ≡ rows_under c.period (content_samples view c) (items_seen chain)
  rows_are splits items rows sorted frames profile all are firsts found order =
      order ∙ ap (ascending row_order) (found ∙ ap (λ (l : List Item). filter is_some (map (row_at c.period (content_samples view c) (items_seen chain)) l)) firsts)
      ∙ rows_found view c (items_seen chain) splits profile frames all are

pub ruleset rows_steps = (row_put, row_pass, rows_all, rows_are)
