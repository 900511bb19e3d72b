-- The exclusive values of the rows under a chain add up: each sample that goes on counts for one of them.
use Rattle.std.proofs.Common.{◌≡◌, ℕ, zero, suc, ◌+◌, ◌*◌, ◌<◌, ◌≤◌, ◌==◌, ◌&&◌, ◌||◌, not, nat_lt, inl, inr, Bool, true, false, cond, List, [], ◌∷◌, ◌++◌, length, get_or, map, filter, count_by, sum_by, Option, Some, None, All, Less, Equal, Greater, Ordering, is_eq, true≢false, refl, sym, ap, subst, ◌∙◌, arith}
use Rattle.std.specs.List.{flat_map, list_any}
use Rattle.std.specs.List.Sorted.{IsStrictlySortedBy}
use Rattle.std.specs.Ordering.{eq_by_cmp}
use Rattle.std.proofs.Math.Nat.{mul-le-mul_left}
use Rattle.std.proofs.lemmas.Bool.{and_from, and_parts, cases_lt, le-ltb, lt-ltb, ne_eqb, or_left, or_right}
use Rattle.std.proofs.lemmas.Cmp.{tied_itself}
use Rattle.std.proofs.lemmas.List.{get_or_default}
use Rattle.std.proofs.lemmas.List.Elements.{All-cons, All-filter, All-head, All-map, All-nil, All-tail, All-weaker, filter_passes}
use Rattle.std.proofs.lemmas.List.Folds.{list_any-append, list_any_at}
use Rattle.std.proofs.lemmas.List.Sums.{count_by-le-length, sum_by-cons}
use Rattle.tree_types.specs.Ascending.{ascending, by_order, put}
use Rattle.tree_types.proofs.Counting.{count_by-cons, count_never, count_once, one, sums_swap}
use Rattle.tree_types.proofs.Prefixes.{list_any-flat_map}
use Rattle.tree_types.proofs.Sorting.{bool_same, equal_from_is, has, has_ascending, sorted_ascending}
use Rattle.tree_types.proofs.PathsAgain.{count_some}
use Rattle.tree_types.proofs.Totals.{times}
use Rattle.view_tables.specs.Sums.{goes_on}
use Rattle.view_tables.specs.Views.{Item, Sequences, ViewRow, all_items, begins_with, ends, holds_chain, item_order, row_at, row_order, rows_under, same_item}
use Rattle.view_tables.proofs.ViewOrders.{item_order_tells, item_order_total, row_order_tells, row_order_total}

-- ---- lists

module _ {K : Type 0} (R : K → K → Ordering) (P : K → Type 0) where
  all_put : (x : K) (ys : List K) → P x → All P ys → All P (put R x ys)
  all_put x [] px all = All-cons P x [] px (All-nil P)
  all_put x (y ∷ ys) px all =
      let later : All P (put R x ys) = all_put x ys px (All-tail P y ys all) in
      elim (R x y) as (λ r. All P (by_order r (x ∷ y ∷ ys) (y ∷ ys) (y ∷ put R x ys))) [
        | Less ↦ All-cons P x (y ∷ ys) px all
        | Equal ↦ all
        | Greater ↦ All-cons P y (put R x ys) (All-head P y ys all) later
      ]

  all_ascending : (xs : List K) → All P xs → All P (ascending R xs)
  unfolding ascending
  all_ascending [] all = All-nil P
  all_ascending (x ∷ xs) all = all_put x (ascending R xs) (All-head P x xs all) (all_ascending xs (All-tail P x xs all))

any_map : {X Y : Type 0} (t : Y → Bool) (f : X → Y) (xs : List X) → list_any t (map f xs) ≡ list_any (λ x. t (f x)) xs
any_map t f [] = refl
any_map t f (x ∷ xs) = ap (λ b. t (f x) || b) (any_map t f xs)

-- what a test finds is found among the elements that another test keeps, where that one keeps what it finds
any_kept : {X : Type 0} (t p : X → Bool) → ((x : X) → t x ≡ true → p x ≡ true) → (xs : List X) → list_any t (filter p xs) ≡ list_any t xs
any_kept t p keeps [] = refl
any_kept t p keeps (x ∷ xs) =
    elim (p x) as (λ b. p x ≡ b → list_any t (cond b (x ∷ filter p xs) (filter p xs)) ≡ (t x || list_any t xs)) [
      | true ↦ λ e. ap (λ b. t x || b) (any_kept t p keeps xs)
      | false ↦ λ e. any_kept t p keeps xs ∙ ap (λ b. b || list_any t xs) (sym (never (t x) refl e))
    ] refl
  where
    never : (b : Bool) → t x ≡ b → p x ≡ false → t x ≡ false
    never true is out = absurd (true≢false (sym (keeps x is) ∙ out))
    never false is out = is

pub count_same : {X : Type 0} (p q : X → Bool) (xs : List X) → All (λ x. p x ≡ q x) xs → count_by p xs ≡ count_by q xs
count_same p q [] all = refl
count_same p q (x ∷ xs) all =
    count_by-cons p x xs ∙ (λ i. one (All-head (λ x. p x ≡ q x) x xs all i) + count_same p q xs (All-tail (λ x. p x ≡ q x) x xs all) i) ∙ sym (count_by-cons q x xs)

count_more : {X : Type 0} (p q : X → Bool) → ((x : X) → p x ≡ true → q x ≡ true) → (xs : List X) → count_by p xs ≤ count_by q xs
count_more p q more [] = omega arith
count_more p q more (x ∷ xs) =
    let a = count_by-cons p x xs in
    let b = count_by-cons q x xs in
    let rest = count_more p q more xs in
    let here = less (p x) (q x) (more x) in
    omega (arith, a, b, rest, here)
  where
    less : (a b : Bool) → (a ≡ true → b ≡ true) → one a ≤ one b
    less true b more = (let is : one b ≡ 1 = ap one (more refl) in omega (arith, is))
    less false b more = omega arith

pub sum_same : {X : Type 0} (f g : X → ℕ) (xs : List X) → All (λ x. f x ≡ g x) xs → sum_by f xs ≡ sum_by g xs
sum_same f g [] all = refl
sum_same f g (x ∷ xs) all =
    sum_by-cons f x xs ∙ (λ i. All-head (λ x. f x ≡ g x) x xs all i + sum_same f g xs (All-tail (λ x. f x ≡ g x) x xs all) i) ∙ sym (sum_by-cons g x xs)

-- ---- what follows a chain

-- the item after the chain, where the items begin with it and go on
next_item : List Item → List Item → Option Item
next_item [] [] = None
next_item [] (y ∷ items) = Some y
next_item (a ∷ chain) [] = None
next_item (a ∷ chain) (b ∷ items) = cond (same_item a b) (next_item chain items) None

is_next : Item → Option Item → Bool
is_next x None = false
is_next x (Some y) = same_item x y

is_some : Option Item → Bool
is_some None = false
is_some (Some y) = true

begins_next : (chain items : List Item) (x : Item) → begins_with (chain ++ x ∷ []) items ≡ is_next x (next_item chain items)
unfolding next_item is_next
begins_next [] [] x = refl
begins_next [] (y ∷ items) x = and_true (same_item x y)
  where
    and_true : (b : Bool) → (b && true) ≡ b
    and_true true = refl
    and_true false = refl
begins_next (a ∷ chain) [] x = refl
begins_next (a ∷ chain) (b ∷ items) x = elim (same_item a b) as (λ t. (t && begins_with (chain ++ x ∷ []) items) ≡ is_next x (cond t (next_item chain items) None)) [
  | true ↦ begins_next chain items x
  | false ↦ refl
]

after_one : (m n : ℕ) → nat_lt (suc m) (suc n) ≡ nat_lt m n
after_one m n = elim (cases_lt m n) [
  | inl lt ↦ lt-ltb (suc m) (suc n) (omega arith) ∙ sym (lt-ltb m n lt)
  | inr ge ↦ le-ltb (suc m) (suc n) (omega arith) ∙ sym (le-ltb m n ge)
]

goes_next : (chain items : List Item) → (begins_with chain items && nat_lt (length chain) (length items)) ≡ is_some (next_item chain items)
unfolding next_item is_some
goes_next [] [] = refl
goes_next [] (y ∷ items) = lt-ltb 0 (length (y ∷ items)) (omega arith)
goes_next (a ∷ chain) [] = refl
goes_next (a ∷ chain) (b ∷ items) = elim (same_item a b) as (λ t. ((t && begins_with chain items) && nat_lt (suc (length chain)) (suc (length items))) ≡ is_some (cond t (next_item chain items) None)) [
  | true ↦ ap (λ b. begins_with chain items && b) (after_one (length chain) (length items)) ∙ goes_next chain items
  | false ↦ refl
]

next_there : (chain items : List Item) (y : Item) (t : Item → Bool) → next_item chain items ≡ Some y → t y ≡ true → list_any t items ≡ true
unfolding next_item
next_there [] [] y t is e = absurd cc
next_there [] (z ∷ items) y t is e = or_left (t z) (list_any t items) (ap t (same z y is) ∙ e)
  where
    same : (z y : Item) → ◌≡◌ {A = Option Item} (Some z) (Some y) → z ≡ y
    same z y is = cc
next_there (a ∷ chain) [] y t is e = absurd cc
next_there (a ∷ chain) (b ∷ items) y t is e = by_test (same_item a b) is (λ next. next_there chain items y t next e)
  where
    by_test : (s : Bool) → cond s (next_item chain items) None ≡ Some y → (next_item chain items ≡ Some y → list_any t items ≡ true) → list_any t (b ∷ items) ≡ true
    by_test true is later = or_right (t b) (list_any t items) (later is)
    by_test false is later = absurd cc

same_itself : (x : Item) → same_item x x ≡ true
same_itself x = ap is_eq (tied_itself item_order_total x)

same_is : (x y : Item) → same_item x y ≡ true → x ≡ y
same_is x y e = item_order_tells x y (equal_from_is (item_order x y) e)

-- ---- the rows

module _ (period : ℕ) (samples : List Sequences) (chain : List Item) where
  abbrev row : Item → ViewRow
  row = row_at period samples chain

  abbrev rows : List ViewRow
  rows = rows_under period samples chain

  abbrev pub IsRow : ViewRow → Type 0
  IsRow r = r ≡ row r.item

  pub are_rows : All IsRow rows
  unfolding rows_under
  are_rows =
      all_ascending row_order IsRow (filter (λ r. not (r.inclusive == 0)) (map row (all_items samples)))
      (All-filter (λ (r : ViewRow). not (r.inclusive == 0)) IsRow (map row (all_items samples)) (All-map IsRow row (all_items samples) (λ i d lt. refl)))

  sorted : IsStrictlySortedBy row_order rows
  unfolding rows_under
  sorted = sorted_ascending row_order_total _

  abbrev is_row : Item → ViewRow → Bool
  is_row y r = eq_by_cmp row_order (row y) r

  own_row : (y : Item) → is_row y (row y) ≡ true
  own_row y = ap is_eq (tied_itself row_order_total (row y))

  -- an item that goes after the chain in a sample has a row
  row_there : (y : Item) → 0 < (row y).inclusive → list_any (λ x. is_row y (row x)) (all_items samples) ≡ true → has row_order (row y) rows ≡ true
  unfolding rows_under
  row_there y some there =
      has_ascending row_order_total row_order_tells (row y) (filter (λ (r : ViewRow). not (r.inclusive == 0)) (map row (all_items samples)))
      ∙ any_kept (is_row y) (λ r. not (r.inclusive == 0)) kept (map row (all_items samples))
      ∙ any_map (is_row y) row (all_items samples) ∙ there
    where
      kept : (r : ViewRow) → is_row y r ≡ true → not (r.inclusive == 0) ≡ true
      kept r e =
          let is : row y ≡ r = row_order_tells (row y) r (equal_from_is (row_order (row y) r) e) in
          ap (λ (r : ViewRow). not (r.inclusive == 0)) (sym is) ∙ ap not (ne_eqb (row y).inclusive 0 (λ z. absurd (omega (arith, z, some))))

  -- the row of the item is the only one that has it
  one_row : (y : Item) → has row_order (row y) rows ≡ true → count_by (λ r. same_item r.item y || false) rows ≡ 1
  one_row y there =
      count_same (λ r. same_item r.item y || false) (is_row y) rows (All-weaker IsRow (λ r. (same_item r.item y || false) ≡ is_row y r) same rows are_rows)
      ∙ count_once row_order_tells (row y) rows sorted there
    where
      same : (r : ViewRow) → IsRow r → (same_item r.item y || false) ≡ is_row y r
      same r is = bool_same (same_item r.item y || false) (is_row y r) to_row from_row
        where
          front : (b : Bool) → (b || false) ≡ true → b ≡ true
          front true e = refl
          front false e = e

          to_row : (same_item r.item y || false) ≡ true → is_row y r ≡ true
          to_row e = ap (is_row y) (is ∙ ap row (same_is r.item y (front (same_item r.item y) e))) ∙ own_row y

          from_row : is_row y r ≡ true → (same_item r.item y || false) ≡ true
          from_row e =
              let item : y ≡ r.item = ap (λ (r : ViewRow). r.item) (row_order_tells (row y) r (equal_from_is (row_order (row y) r) e)) in
              or_left (same_item r.item y) false (ap (λ (x : Item). same_item x y) (sym item) ∙ same_itself y)

  -- ---- a sample counts for one row, where it goes on

  abbrev counts : Sequences → ViewRow → Bool
  counts sample r = ends (chain ++ r.item ∷ []) sample

  first_counts : (items : List Item) (rest : Sequences) (i : ℕ) → i < length samples → get_or samples i [] ≡ items ∷ rest → 0 < period → (o : Option Item) → next_item chain items ≡ o
      → count_by (λ r. is_next r.item o || false) rows ≡ one (is_some o || false)
  unfolding is_next is_some
  first_counts items rest i lt at positive None next = count_never (λ (r : ViewRow). false || false) rows (λ r. refl)
  first_counts items rest i lt at positive (Some y) next = one_row y (row_there y inclusive there)
    where
      found : holds_chain (chain ++ y ∷ []) (items ∷ rest) ≡ true
      found = or_left (begins_with (chain ++ y ∷ []) items) (list_any (begins_with (chain ++ y ∷ [])) rest) (begins_next chain items y ∙ ap (is_next y) next ∙ same_itself y)

      counted : 0 < count_by (holds_chain (chain ++ y ∷ [])) samples
      counted = count_some (holds_chain (chain ++ y ∷ [])) samples (list_any_at (holds_chain (chain ++ y ∷ [])) samples i [] lt (ap (holds_chain (chain ++ y ∷ [])) at ∙ found))

      inclusive : 0 < (row y).inclusive
      inclusive = above period (count_by (holds_chain (chain ++ y ∷ [])) samples) positive counted
        where
          above : (m n : ℕ) → 0 < m → 0 < n → 0 < m * n
          above m n some more = (let least : m * 1 ≤ m * n = mul-le-mul_left m more in omega (arith, least, some))

      there : list_any (λ x. is_row y (row x)) (all_items samples) ≡ true
      there =
          let t : Item → Bool = λ x. is_row y (row x) in
          let f : Sequences → List Item = λ sample. flat_map (λ items. items) sample in
          let own : list_any t (f (items ∷ rest)) ≡ true =
          list_any-append t items (flat_map (λ items. items) rest) ∙ or_left (list_any t items) (list_any t (flat_map (λ items. items) rest)) (next_there chain items y t next (own_row y)) in
          list_any-flat_map t f samples ∙ list_any_at (λ sample. list_any t (f sample)) samples i [] lt (ap (λ (sample : Sequences). list_any t (f sample)) at ∙ own)

  sample_counts : (sample : Sequences) (i : ℕ) → i < length samples → get_or samples i [] ≡ sample → 0 < period → count_by (counts sample) rows ≡ one (goes_on chain sample)
  sample_counts [] i lt at positive = count_never (counts []) rows (λ r. refl)
  sample_counts (items ∷ rest) i lt at positive =
      (λ t. count_by (λ r. begins_next chain items r.item t || false) rows)
      ∙ first_counts items rest i lt at positive (next_item chain items) refl ∙ ap (λ b. one (b || false)) (sym (goes_next chain items))

  pub add_up : sum_by (λ r. r.exclusive) rows ≡ period * count_by (goes_on chain) samples
  add_up =
      sum_same (λ r. r.exclusive) (λ r. period * count_by (λ s. counts s r) samples) rows (All-weaker IsRow _ (λ r is. ap (λ (x : ViewRow). x.exclusive) is) rows are_rows)
      ∙ sym (times period (λ r. count_by (λ s. counts s r) samples) rows)
      ∙ by_period period refl
    where
      by_period : (n : ℕ) → period ≡ n → n * sum_by (λ r. count_by (λ s. counts s r) samples) rows ≡ n * count_by (goes_on chain) samples
      by_period zero is = omega arith
      by_period (suc n) is =
          ap (λ (k : ℕ). suc n * k)
          (sums_swap (λ r s. counts s r) rows samples
          ∙ sum_same (λ s. count_by (counts s) rows) (λ s. one (goes_on chain s)) samples (λ i d lt. sample_counts (get_or samples i d) i lt (get_or_default samples i [] d lt) (omega (arith, is))))

  -- ---- inclusive values

  holds_front : (x : Item) (sample : Sequences) → holds_chain (chain ++ x ∷ []) sample ≡ true → holds_chain chain sample ≡ true
  holds_front x [] e = e
  holds_front x (items ∷ rest) e = either (begins_with (chain ++ x ∷ []) items) refl e (holds_front x rest)
    where
      front : (c items : List Item) → begins_with (c ++ x ∷ []) items ≡ true → begins_with c items ≡ true
      front [] items e = refl
      front (a ∷ c) [] e = e
      front (a ∷ c) (b ∷ items) e =
          let both = and_parts (same_item a b) (begins_with (c ++ x ∷ []) items) e in
          and_from (same_item a b) (begins_with c items) both.0 (front c items both.1)

      either : (b : Bool) → begins_with (chain ++ x ∷ []) items ≡ b → (b || list_any (begins_with (chain ++ x ∷ [])) rest) ≡ true → (holds_chain (chain ++ x ∷ []) rest ≡ true → holds_chain chain rest ≡ true) → (begins_with chain items || list_any (begins_with chain) rest) ≡ true
      either true is e later = or_left (begins_with chain items) (list_any (begins_with chain) rest) (front chain items is)
      either false is e later = or_right (begins_with chain items) (list_any (begins_with chain) rest) (later e)

  ends_held : (c : List Item) (sample : Sequences) → ends c sample ≡ true → holds_chain c sample ≡ true
  ends_held c [] e = e
  ends_held c (items ∷ rest) e = or_left (begins_with c items) (list_any (begins_with c) rest) (only (begins_with c items) e)
    where
      only : (b : Bool) → (b || false) ≡ true → b ≡ true
      only true e = refl
      only false e = e

  pub exclusive_within : All (λ r. r.exclusive ≤ r.inclusive) rows
  exclusive_within = All-weaker IsRow (λ r. r.exclusive ≤ r.inclusive) (λ r is. subst (λ (x : ViewRow). x.exclusive ≤ x.inclusive) (sym is)
      (mul-le-mul_left period (count_more (ends (chain ++ r.item ∷ [])) (holds_chain (chain ++ r.item ∷ [])) (ends_held (chain ++ r.item ∷ [])) samples))) rows are_rows

  pub inclusive_some : All (λ r. 0 < r.inclusive) rows
  unfolding rows_under
  inclusive_some =
      all_ascending row_order (λ r. 0 < r.inclusive) (filter (λ r. not (r.inclusive == 0)) (map row (all_items samples)))
      (All-weaker (λ (r : ViewRow). not (r.inclusive == 0) ≡ true) (λ r. 0 < r.inclusive) (λ r. above r.inclusive) (filter (λ r. not (r.inclusive == 0)) (map row (all_items samples)))
      (filter_passes (λ (r : ViewRow). not (r.inclusive == 0)) (map row (all_items samples))))
    where
      above : (n : ℕ) → not (n == 0) ≡ true → 0 < n
      above zero h = absurd (true≢false (sym h))
      above (suc n) h = omega arith

  pub inclusive_within : All (λ r. r.inclusive ≤ period * count_by (holds_chain chain) samples) rows
  inclusive_within = All-weaker IsRow (λ r. r.inclusive ≤ period * count_by (holds_chain chain) samples) (λ r is. subst (λ (x : ViewRow). x.inclusive ≤ period * count_by (holds_chain chain) samples) (sym is)
      (mul-le-mul_left period (count_more (holds_chain (chain ++ r.item ∷ [])) (holds_chain chain) (holds_front r.item) samples))) rows are_rows

  pub inclusive_most : All (λ r. r.inclusive ≤ period * length samples) rows
  inclusive_most =
      let most : period * count_by (holds_chain chain) samples ≤ period * length samples = mul-le-mul_left period (count_by-le-length (holds_chain chain) samples) in
      All-weaker (λ (r : ViewRow). r.inclusive ≤ period * count_by (holds_chain chain) samples) (λ r. r.inclusive ≤ period * length samples) (λ r le. omega (arith, le, most)) rows inclusive_within
