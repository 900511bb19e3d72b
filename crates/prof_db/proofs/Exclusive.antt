-- The exclusive values of a profile plane that the sixth rule passes, as the counts of a tree.
use Rattle.std.proofs.Common.{◌≡◌, ℕ, zero, suc, ◌+◌, ◌-◌, ◌*◌, ◌/◌, ◌%◌, ◌<◌, ◌≤◌, ◌==◌, ◌&&◌, ◌||◌, not, nat_lt, nat_le, ◌⊎◌, inl, inr, Bool, true, false, cond, List, [], ◌∷◌, length, get_or, map, take, filter, count_by, sum_by, replicate, All, AllPairs, Less, Equal, Greater, Ordering, refl, sym, ap, subst, ◌∙◌, arith, true≢false, Ok}
use Rattle.std.specs.Prelude.{◌≢◌}
use Rattle.std.specs.Cmp.{IsTotalOrder, on_total}
use Rattle.std.specs.FinMap.{nat_cmp-IsAntisymmetric, slice_cmp-IsAntisymmetric}
use Rattle.std.specs.List.{IsDistinct, flat_map, range_with_len}
use Rattle.std.specs.List.Sorted.{IsPermutation, IsSortedBy}
use Rattle.std.specs.Ordering.{nat_cmp, is_lt, ordering_then, ordering_reverse}
use Rattle.std.proofs.lemmas.Bool.{cases_eq, eq-eqb, eqb-true, leb-true, lt-ltb, ltb-true, ne_eqb, not-false, or_cases, or_right}
use Rattle.std.proofs.lemmas.Cmp.{nat_list_cmp_total}
use Rattle.std.proofs.Math.Nat.{div-add-mod}
use Rattle.std.proofs.lemmas.List.{get_or_default, get_or-map, length-map, take_all}
use Rattle.std.proofs.lemmas.List.Elements.{All-filter, All-get_or, All-map, All-from_get_or, filter_passes}
use Rattle.std.proofs.lemmas.List.Folds.{sum_by-replicate}
use Rattle.std.proofs.lemmas.List.Kept.{AllPairs-filter}
use Rattle.std.proofs.lemmas.List.MinMax.{ranks_by}
use Rattle.std.proofs.lemmas.List.Sorted.{sorted_far, All-permutation, sum_by-IsPermutation}
use Rattle.std.proofs.lemmas.List.Sums.{sum_by-append, sum_by-cons, sum_by_more}
use Rattle.std.proofs.lemmas.Map.Keys.{IsDistinct-from_apart, IsDistinct-IsPermutation, apart_from_distinct}
use Rattle.scope_types.specs.CallPaths.{ColumnPath}
use Rattle.scope_types.specs.Limits.{most_samples}
use Rattle.tree_types.specs.declared.content.Node.{Node}
use Rattle.tree_types.specs.declared.counted_tree.NodeCount.{NodeCount}
use Rattle.tree_types.specs.NodeValues.{nonzero, values_of}
use Rattle.tree_types.specs.Nodes.{no_parent}
use Rattle.tree_types.specs.Paths.{Path, after_prefix, rest_passes}
use Rattle.tree_types.specs.Planes.{kinds}
use Rattle.tree_types.specs.Tree.{CountedTree, node_at, IsPreorder, IsTree, count_order, counted_path, counts_in, node_path, paths_in}
use Rattle.tree_types.specs.Values.{count_below, counts_for, columns_below}
use Rattle.tree_types.proofs.Counting.{one}
use Rattle.prof_db.specs.declared.raw.RawEntry.{RawEntry}
use Rattle.prof_db.specs.NameRules.{pair_less}
use Rattle.prof_db.specs.NodeRules.{is_statement}
use Rattle.prof_db.specs.ValueRules.{entry_count, entries_ascend, entries_kept, entry_at, entry_breaks, is_exclusive_entry, is_value, entry_samples}
use Rattle.prof_db.proofs.Preorder.{and_parts}
use Rattle.prof_db.proofs.FirstBroken.{none_broken}

-- ---- sorting

count_order_total : IsTotalOrder count_order
count_order_total = on_total (λ (c : NodeCount). c.node ∷ c.column ∷ []) nat_list_cmp_total

abbrev pair_order : NodeCount → NodeCount → Ordering
pair_order a b = ordering_then (nat_cmp a.node b.node) (nat_cmp a.column b.column)

pair_same : (a b : NodeCount) → pair_order a b ≡ count_order a b
pair_same a b = ap (ordering_then (nat_cmp a.node b.node)) (no_more (nat_cmp a.column b.column))
  where
    no_more : (o : Ordering) → o ≡ ordering_then o Equal
    no_more Less = refl
    no_more Equal = refl
    no_more Greater = refl

pub sorted_pairs : (xs : List NodeCount) → IsSortedBy (λ a b. is_lt (pair_order a b)) xs → AllPairs (λ a b. count_order b a ≢ Less) xs
sorted_pairs xs up i j d below lt less =
    let up_all : IsSortedBy (λ a b. is_lt (count_order a b)) xs = λ k e low high. ap is_lt (sym (pair_same (get_or xs (k + 1) e) (get_or xs k e))) ∙ up k e low high in
    let not_less : is_lt (count_order (get_or xs j d) (get_or xs i d)) ≡ false = sorted_far (λ x y. is_lt (count_order x y)) (ranks_by count_order_total (λ (c : NodeCount). c)) xs up_all i j d (omega arith) lt in
    true≢false (sym (ap is_lt less) ∙ not_less)

abbrev same_pair : NodeCount → NodeCount → Bool
same_pair a b = a.node == b.node && a.column == b.column

tied : (a b : NodeCount) → count_order a b ≡ Equal → same_pair a b ≡ true
tied a b e =
    let lists : (a.node ∷ a.column ∷ []) ≡ (b.node ∷ b.column ∷ []) = slice_cmp-IsAntisymmetric nat_cmp-IsAntisymmetric (a.node ∷ a.column ∷ []) (b.node ∷ b.column ∷ []) e in
    let nodes : a.node ≡ b.node = cc in
    let columns : a.column ≡ b.column = cc in
    (λ i. eq-eqb a.node b.node nodes i && eq-eqb a.column b.column columns i)

flips : (a b : NodeCount) → same_pair a b ≡ same_pair b a
flips a b = λ i. turned a.node b.node i && turned a.column b.column i
  where
    turned : (m n : ℕ) → (m == n) ≡ (n == m)
    turned m n = elim (cases_eq m n) [ inl is ↦ eq-eqb m n is ∙ sym (eq-eqb n m (sym is)) | inr apart ↦ ne_eqb m n apart ∙ sym (ne_eqb n m (λ e. apart (sym e))) ]

-- what is sorted and has each node and column once ascends strictly
sorted_up : (xs : List NodeCount) → AllPairs (λ a b. count_order b a ≢ Less) xs → IsDistinct same_pair xs → AllPairs (λ a b. count_order a b ≡ Less) xs
sorted_up xs up distinct i j d below lt =
    let a : NodeCount = get_or xs i d in
    let b : NodeCount = get_or xs j d in
    let apart : same_pair a b ≡ false = apart_from_distinct same_pair xs i j d distinct below lt in
    elim (count_order a b) as (λ o. count_order a b ≡ o → o ≡ Less) [
      | Less ↦ λ e. refl
      | Equal ↦ λ e. absurd (true≢false (sym (tied a b e) ∙ apart))
      | Greater ↦ λ e. absurd (up i j d below lt (count_order_total.antisymm b a ∙ ap ordering_reverse e))
    ] refl

-- ---- numbers in threes

-- the first is smaller, or it is the same and the others are
abbrev threes_up : ℕ → ℕ → ℕ → ℕ → ℕ → ℕ → Bool
threes_up a b c x y z = nat_lt a x || (a == x && pair_less b c y z)

abbrev Up : ℕ → ℕ → ℕ → ℕ → ℕ → ℕ → Type 0
Up a b c x y z = (a < x) ⊎ ((a ≡ x) × ((b < y) ⊎ ((b ≡ y) × (c < z))))

up_parts : (a b c x y z : ℕ) → threes_up a b c x y z ≡ true → Up a b c x y z
up_parts a b c x y z e =
    elim (or_cases (nat_lt a x) (a == x && pair_less b c y z) e) [
      | inl first ↦ inl (ltb-true a x first)
      | inr rest ↦
          let both = and_parts (a == x) (pair_less b c y z) rest in
          elim (or_cases (nat_lt b y) (b == y && nat_lt c z) both.1) [
            | inl second ↦ inr (eqb-true a x both.0, inl (ltb-true b y second))
            | inr third ↦ let last = and_parts (b == y) (nat_lt c z) third in inr (eqb-true a x both.0, inr (eqb-true b y last.0, ltb-true c z last.1))
          ]
    ]

pub first_up : (a b c x y z : ℕ) → a < x → threes_up a b c x y z ≡ true
first_up a b c x y z lt = ap (λ t. t || (a == x && pair_less b c y z)) (lt-ltb a x lt)

pub second_up : (a b c x y z : ℕ) → a ≡ x → b < y → threes_up a b c x y z ≡ true
second_up a b c x y z same lt = or_right (nat_lt a x) (a == x && pair_less b c y z) ((λ i. eq-eqb a x same i && (lt-ltb b y lt i || (b == y && nat_lt c z))))

pub third_up : (a b c x y z : ℕ) → a ≡ x → b ≡ y → c < z → threes_up a b c x y z ≡ true
third_up a b c x y z same next lt = or_right (nat_lt a x) (a == x && pair_less b c y z) ((λ i. eq-eqb a x same i && pair_less b c y z) ∙ or_right (nat_lt b y) (b == y && nat_lt c z) (λ i. eq-eqb b y next i && lt-ltb c z lt i))

chained : (a b c d e f g h k : ℕ) → threes_up a b c d e f ≡ true → threes_up d e f g h k ≡ true → threes_up a b c g h k ≡ true
chained a b c d e f g h k up on =
    elim (up_parts a b c d e f up) [
      | inl p ↦ first_up a b c g h k (elim (up_parts d e f g h k on) [ inl q ↦ omega arith | inr q ↦ (let s = q.0 in omega arith) ])
      | inr p ↦
          let s : a ≡ d = p.0 in
          elim (up_parts d e f g h k on) [
            | inl q ↦ first_up a b c g h k (omega arith)
            | inr q ↦
                let t : d ≡ g = q.0 in
                elim p.1 [
                  | inl u ↦ second_up a b c g h k (s ∙ t) (elim q.1 [ inl v ↦ omega arith | inr v ↦ (let w = v.0 in omega arith) ])
                  | inr u ↦ elim q.1 [
                    | inl v ↦ second_up a b c g h k (s ∙ t) (let w = u.0 in omega arith)
                    | inr v ↦ third_up a b c g h k (s ∙ t) (u.0 ∙ v.0) (let m = u.1 in let n = v.1 in omega arith)
                  ]
                ]
          ]
    ]

differ : (a b c x y z : ℕ) → threes_up a b c x y z ≡ true → c ≡ 0 → z ≡ 0 → (b == y && a == x) ≡ false
differ a b c x y z up zero_c zero_z =
    elim (up_parts a b c x y z up) [
      | inl p ↦ and_last (b == y) (a == x) (ne_eqb a x (λ e. absurd (omega arith)))
      | inr p ↦ elim p.1 [
        | inl u ↦ ap (λ t. t && (a == x)) (ne_eqb b y (λ e. absurd (omega arith)))
        | inr u ↦ (let m = u.1 in absurd (omega arith))
      ]
    ]
  where
    and_last : (t u : Bool) → u ≡ false → (t && u) ≡ false
    and_last true u e = e
    and_last false u e = refl

-- the samples of exclusive values are those of their counts
pub samples_are : (period : ℕ → ℕ) (es : List RawEntry) → counts_in (map (entry_count period) (filter is_exclusive_entry es)) ≡ sum_by (entry_samples period) es
samples_are period [] = refl
samples_are period (e ∷ es) =
    elim (is_exclusive_entry e) as (λ b. counts_in (map (entry_count period) (cond b (e ∷ filter is_exclusive_entry es) (filter is_exclusive_entry es))) ≡ cond b (e.value / period e.column) 0 + sum_by (entry_samples period) es) [
      | true ↦ sum_by-cons (λ (c : NodeCount). c.count) (entry_count period e) (map (entry_count period) (filter is_exclusive_entry es)) ∙ ap (λ (n : ℕ). e.value / period e.column + n) (samples_are period es)
      | false ↦ samples_are period es ∙ (omega arith)
    ] ∙ sym (sum_by-cons (entry_samples period) e es)

-- ---- what the rule says

module _ (period : ℕ → ℕ) (columns : ℕ) (nodes : List Node) (entries : List RawEntry) (kept : entries_kept period columns nodes entries ≡ Ok tt) where
  abbrev at : ℕ → RawEntry
  at i = entry_at entries i

  -- the tests of an entry, in their order
  abbrev whole_samples : RawEntry → Bool
  whole_samples e = is_statement (node_at nodes e.node).scope && e.value % period e.column == 0

  abbrev may_stand : RawEntry → Bool
  may_stand e = not (is_exclusive_entry e) || whole_samples e

  abbrev is_some : RawEntry → Bool
  is_some e = not (e.value == 0) && may_stand e

  abbrev has_kind : RawEntry → Bool
  has_kind e = nat_lt e.kind 3 && is_some e

  abbrev has_column : RawEntry → Bool
  has_column e = nat_lt e.column columns && has_kind e

  abbrev is_next : ℕ → Bool
  is_next i = i == 0 || entries_ascend (entry_at entries (i - 1)) (at i)

  abbrev has_room : ℕ → Bool
  has_room i = nat_le (sum_by (entry_samples period) (take (i + 1) entries)) most_samples

  whole : (i : ℕ) → i < length entries → (is_value period columns nodes (at i) && (is_next i && has_room i)) ≡ true
  whole i lt = not-false (is_value period columns nodes (at i) && (is_next i && has_room i)) (none_broken 6 (entry_breaks period columns nodes entries) (λ i. (entry_at entries i).offset) 0 (length entries) i kept (omega arith) (omega arith))

  value_ok : (i : ℕ) → i < length entries → is_value period columns nodes (at i) ≡ true
  value_ok i lt = (and_parts (is_value period columns nodes (at i)) (is_next i && has_room i) (whole i lt)).0

  order_ok : (i : ℕ) → i < length entries → (is_next i ≡ true) × (has_room i ≡ true)
  order_ok i lt = and_parts (is_next i) (has_room i) (and_parts (is_value period columns nodes (at i)) (is_next i && has_room i) (whole i lt)).1

  total_ok : (i : ℕ) → i < length entries → sum_by (entry_samples period) (take (i + 1) entries) ≤ most_samples
  total_ok i lt = leb-true (sum_by (entry_samples period) (take (i + 1) entries)) most_samples (order_ok i lt).1

  next_up : (i : ℕ) → suc i < length entries → entries_ascend (at i) (at (suc i)) ≡ true
  next_up i lt =
      let k : suc i - 1 ≡ i = omega arith in
      elim (or_cases (suc i == 0) (entries_ascend (entry_at entries (suc i - 1)) (at (suc i))) (order_ok (suc i) lt).0) [
        | inl e ↦ absurd (never i (eqb-true (suc i) 0 e))
        | inr e ↦ subst (λ (j : ℕ). entries_ascend (at j) (at (suc i)) ≡ true) k e
      ]
    where
      never : (i : ℕ) → suc i ≡ 0 → ⊥
      never i e = absurd (omega arith)

  chain : (e f g : RawEntry) → entries_ascend e f ≡ true → entries_ascend f g ≡ true → entries_ascend e g ≡ true
  chain e f g up on = chained e.column e.node e.kind f.column f.node f.kind g.column g.node g.kind up on

  all_up : (i j : ℕ) → i < j → j < length entries → entries_ascend (at i) (at j) ≡ true
  all_up i zero below lt = absurd (omega arith)
  all_up i (suc j) below lt = elim (cases_eq i j) [
    | inl same ↦ subst (λ (k : ℕ). entries_ascend (at k) (at (suc j)) ≡ true) (sym same) (next_up j lt)
    | inr apart ↦ chain (at i) (at j) (at (suc j)) (all_up i j (omega arith) (omega arith)) (next_up j lt)
  ]

  abbrev none : RawEntry
  none = record { offset = 0; column = 0; node = 0; kind = 0; value = 0 }

  ascend : AllPairs (λ e f. entries_ascend e f ≡ true) entries
  ascend i j d below lt =
      subst (λ (f : RawEntry). entries_ascend (get_or entries i d) f ≡ true) (sym (get_or_default entries j d none lt))
      (subst (λ (e : RawEntry). entries_ascend e (at j) ≡ true) (sym (get_or_default entries i d none (omega arith))) (all_up i j below lt))

  abbrev exclusive : List RawEntry
  exclusive = filter is_exclusive_entry entries

  abbrev counts : List NodeCount
  counts = map (entry_count period) exclusive

  apart : (e f : RawEntry) → entries_ascend e f ≡ true → is_exclusive_entry e ≡ true → is_exclusive_entry f ≡ true → same_pair (entry_count period e) (entry_count period f) ≡ false
  apart e f up first second = differ e.column e.node e.kind f.column f.node f.kind up (eqb-true e.kind 0 first) (eqb-true f.kind 0 second)

  distinct : IsDistinct same_pair counts
  distinct = IsDistinct-from_apart same_pair counts (λ i j d below lt.
      let long = length-map exclusive (entry_count period) in
      let e : RawEntry = get_or exclusive i none in
      let f : RawEntry = get_or exclusive j none in
      let second : j < length exclusive = omega arith in
      let first : i < length exclusive = omega arith in
      let up : entries_ascend e f ≡ true = AllPairs-filter (λ e f. entries_ascend e f ≡ true) is_exclusive_entry entries ascend i j none below second in
      let e_is : is_exclusive_entry e ≡ true = All-get_or (λ (x : RawEntry). is_exclusive_entry x ≡ true) exclusive i none first (filter_passes is_exclusive_entry entries) in
      let f_is : is_exclusive_entry f ≡ true = All-get_or (λ (x : RawEntry). is_exclusive_entry x ≡ true) exclusive j none second (filter_passes is_exclusive_entry entries) in
      subst (λ (b : NodeCount). same_pair (get_or counts i d) b ≡ false) (sym (get_or-map (entry_count period) exclusive j none d second))
      (subst (λ (a : NodeCount). same_pair a (entry_count period f) ≡ false) (sym (get_or-map (entry_count period) exclusive i none d first)) (apart e f up e_is f_is)))

  -- each exclusive value, as a count
  abbrev IsGood : RawEntry → Type 0
  IsGood e = is_value period columns nodes e ≡ true

  all_good : All IsGood entries
  all_good = All-from_get_or IsGood entries none value_ok

  good_column : (e : RawEntry) → IsGood e → e.column < columns
  good_column e ok = ltb-true e.column columns (and_parts (nat_lt e.column columns) (has_kind e) (and_parts (nat_lt e.node (length nodes)) (has_column e) ok).1).0

  pub entries_columns : All (λ e. e.column < columns) entries
  entries_columns i d lt = good_column (get_or entries i d) (all_good i d lt)

  module _ (some : (column : ℕ) → 0 < period column) where
    good_node : (e : RawEntry) → IsGood e → e.node < length nodes
    good_node e ok = ltb-true (e.node) (length nodes) (and_parts (nat_lt e.node (length nodes)) (has_column e) ok).0

    -- a value of whole samples, other than 0, has some
    has_some : (p v : ℕ) → v ≢ 0 → v % p ≡ 0 → 0 < v / p
    has_some p v other rest = pos (v / p) refl
      where
        pos : (q : ℕ) → v / p ≡ q → 0 < v / p
        pos zero is = absurd (other (sym (div-add-mod v p) ∙ ap (λ (n : ℕ). p * n + v % p) is ∙ ap (λ (n : ℕ). p * 0 + n) rest ∙ nothing p))
          where
            nothing : (n : ℕ) → n * 0 + 0 ≡ 0
            nothing n = omega arith
        pos (suc q) is = subst (λ (n : ℕ). 0 < n) (sym is) (omega arith)

    good_count : (e : RawEntry) → IsGood e → is_exclusive_entry e ≡ true → 0 < e.value / period e.column
    good_count e ok excl =
        let kind = (and_parts (nat_lt e.column columns) (has_kind e) (and_parts (nat_lt e.node (length nodes)) (has_column e) ok).1).1 in
        let rest = (and_parts (nat_lt e.kind 3) (is_some e) kind).1 in
        let both = and_parts (not (e.value == 0)) (may_stand e) rest in
        let other : e.value ≢ 0 = λ z. true≢false (sym both.0 ∙ ap not (eq-eqb e.value 0 z)) in
        elim (or_cases (not (is_exclusive_entry e)) (whole_samples e) both.1) [
          | inl unlike ↦ absurd (true≢false (sym unlike ∙ ap not excl))
          | inr stands ↦ has_some (period e.column) e.value other (eqb-true (e.value % period e.column) 0 (and_parts (is_statement (node_at nodes e.node).scope) (e.value % period e.column == 0) stands).1)
        ]

    good : All IsGood exclusive
    good = All-filter is_exclusive_entry IsGood entries all_good

    some_counts : All (λ e. 0 < e.value / period e.column) exclusive
    some_counts = λ i d lt. good_count (get_or exclusive i d) (good i d lt) (filter_passes is_exclusive_entry entries i d lt)

    -- each count is that of a node and a column that there are, and counts some samples
    pub counts_inside : All (λ c. c.node < length nodes) counts
    counts_inside = All-map (λ (c : NodeCount). c.node < length nodes) (entry_count period) exclusive (λ i d lt. good_node (get_or exclusive i d) (good i d lt))

    pub counts_columns : All (λ c. c.column < columns) counts
    counts_columns = All-map (λ (c : NodeCount). c.column < columns) (entry_count period) exclusive (λ i d lt. good_column (get_or exclusive i d) (good i d lt))

    pub counts_some : All (λ c. 0 < c.count) counts
    counts_some = All-map (λ (c : NodeCount). 0 < c.count) (entry_count period) exclusive some_counts

    -- the tree of the sorted counts
    module _ (sorted : List NodeCount) (moved : IsPermutation counts sorted) (up : AllPairs (λ a b. count_order b a ≢ Less) sorted) (few : length nodes < no_parent) (preorder : IsPreorder nodes) where
      pub sorted_tree : IsTree (record { columns = columns; nodes = nodes; counts = sorted })
      sorted_tree = record {
        few = few;
        preorder = preorder;
        nodes = All-permutation (λ c. c.node < length nodes) counts sorted moved counts_inside;
        columns = All-permutation (λ c. c.column < columns) counts sorted moved counts_columns;
        some = All-permutation (λ c. 0 < c.count) counts sorted moved counts_some;
        ascend = sorted_up sorted up (IsDistinct-IsPermutation same_pair flips counts sorted moved distinct);
      }

  -- ---- samples

  all_samples : (n : ℕ) → length entries ≡ n → sum_by (entry_samples period) entries ≤ most_samples
  all_samples zero is = subst (λ (es : List RawEntry). sum_by (entry_samples period) es ≤ most_samples) (take_all (length entries) entries (omega arith)) (subst (λ (k : ℕ). sum_by (entry_samples period) (take k entries) ≤ most_samples) (sym is) (omega arith))
  all_samples (suc n) is = subst (λ (es : List RawEntry). sum_by (entry_samples period) es ≤ most_samples) (take_all (n + 1) entries (omega arith)) (total_ok n (omega arith))

  pub few_samples : counts_in counts ≤ most_samples
  few_samples = let all = all_samples (length entries) refl in let are = samples_are period entries in omega (arith, all, are)

  pub each_few : All (λ e. entry_samples period e ≤ most_samples) entries
  each_few i d lt =
      let more = sum_by_more (entry_samples period) entries i none lt in
      let most = total_ok i lt in
      subst (λ (e : RawEntry). entry_samples period e ≤ most_samples) (sym (get_or_default entries i d none lt)) (omega (arith, more, most))

pub few_moved : (cs ds : List NodeCount) → IsPermutation cs ds → counts_in cs ≤ most_samples → counts_in ds ≤ most_samples
few_moved cs ds moved few = let same = sum_by-IsPermutation (λ (c : NodeCount). c.count) cs ds moved in omega (arith, same, few)

-- ---- in any order the counts have the same values

module _ (nodes : List Node) where
  spread : (q : ColumnPath → Bool) (cs : List NodeCount) → count_by q (flat_map (λ c. replicate c.count (counted_path nodes c)) cs) ≡ sum_by (λ c. c.count * one (q (counted_path nodes c))) cs
  spread q [] = refl
  spread q (c ∷ cs) =
      sum_by-append (λ (p : ColumnPath). one (q p)) (replicate c.count (counted_path nodes c)) (flat_map (λ c. replicate c.count (counted_path nodes c)) cs)
      ∙ ap (λ (n : ℕ). n + count_by q (flat_map (λ c. replicate c.count (counted_path nodes c)) cs)) (sum_by-replicate (λ (p : ColumnPath). one (q p)) c.count (counted_path nodes c))
      ∙ ap (λ (n : ℕ). c.count * one (q (counted_path nodes c)) + n) (spread q cs)
      ∙ sym (sum_by-cons (λ (c : NodeCount). c.count * one (q (counted_path nodes c))) c cs)

  module _ (period : ℕ → ℕ) (columns : ℕ) (cs ds : List NodeCount) (moved : IsPermutation cs ds) where
    abbrev tree : List NodeCount → CountedTree
    tree counts = record { columns = columns; nodes = nodes; counts = counts }

    same_counts : (test : Path → Bool) (column : ℕ) (n : Path) → count_below test (paths_in (tree ds)) column n ≡ count_below test (paths_in (tree cs)) column n
    unfolding count_below paths_in
    same_counts test column n =
        spread (λ p. p.column == column && rest_passes test (after_prefix n p.path)) ds
        ∙ sum_by-IsPermutation (λ (c : NodeCount). c.count * one ((λ (p : ColumnPath). p.column == column && rest_passes test (after_prefix n p.path)) (counted_path nodes c))) cs ds moved
        ∙ sym (spread (λ p. p.column == column && rest_passes test (after_prefix n p.path)) cs)

    pub same_values : values_of period (tree ds) ≡ values_of period (tree cs)
    unfolding values_of
    same_values = λ i. record {
      nodes = length nodes;
      columns = columns;
      entries = nonzero (flat_map (λ node. flat_map (λ column. map (λ kind. record { node = node; column = column; kind = kind; value = period column * same_counts (counts_for kind) column (node_path nodes node) i }) kinds) (columns_below columns)) (range_with_len 0 (length nodes)));
    }

pub moved_from : (old is new : List NodeCount) → old ≡ is → IsPermutation old new → IsPermutation is new
moved_from old is new same moved = subst (λ (cs : List NodeCount). IsPermutation cs new) same moved

-- after an entry that is not broken the samples are few
pub passed_sum : (period : ℕ → ℕ) (columns : ℕ) (nodes : List Node) (entries : List RawEntry) (i : ℕ) → entry_breaks period columns nodes entries i ≡ false → sum_by (entry_samples period) (take (i + 1) entries) ≤ most_samples
passed_sum period columns nodes entries i whole =
    let value : Bool = is_value period columns nodes (entry_at entries i) in
    let next : Bool = i == 0 || entries_ascend (entry_at entries (i - 1)) (entry_at entries i) in
    let room : Bool = nat_le (sum_by (entry_samples period) (take (i + 1) entries)) most_samples in
    leb-true (sum_by (entry_samples period) (take (i + 1) entries)) most_samples (and_parts next room (and_parts value (next && room) (not-false (value && (next && room)) whole)).1).1
