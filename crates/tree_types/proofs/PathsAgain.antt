-- The paths that a content holds give its nodes and values again.
use Rattle.std.proofs.Common.{◌≡◌, ℕ, zero, suc, Contains, IsPermutation, ◌+◌, ◌*◌, ◌/◌, ◌%◌, ◌-◌, ◌<◌, ◌≤◌, Bool, true, false, cond, ◌&&◌, ◌||◌, not, List, [], ◌∷◌, ◌++◌, length, All, get_or, replicate, map, filter, count_by, sum_by, ◌==◌, decimal, is_eq, refl, sym, ap, subst, ◌∙◌, true≢false, arith, mul-zero, mul-div_cancel, mul_comm}
use Rattle.std.specs.List.{list_any, flat_map, enumerate_from, range_with_len, AllByRecursion}
use Rattle.std.specs.Ordering.{eq_by_cmp}
use Rattle.std.specs.List.Sorted.{IsStrictlySortedBy}
use Rattle.std.proofs.lemmas.Bool.{true_from_ne_false, and_parts, and_from, eqb-true}
use Rattle.std.proofs.lemmas.Cmp.{tied_itself}
use Rattle.std.proofs.lemmas.Nat.{mod_below}
use Rattle.std.proofs.lemmas.List.{append-nil, get_or-map, length-map}
use Rattle.std.proofs.lemmas.List.Sums.{sum_by-cons, sum_by-append}
use Rattle.std.proofs.lemmas.List.Sorted.{sum_by-IsPermutation}
use Rattle.std.proofs.lemmas.List.Elements.{recursion_from_All, All-contains_itself}
use Rattle.prof_bytes.proofs.Tests.{and_true, and_false}
use Rattle.scope_types.specs.CallPaths.{ColumnPath}
use Rattle.scope_types.specs.Columns.{columns_of, period_of_column}
use Rattle.scope_types.specs.Events.{AreEvents, periods_of}
use Rattle.scope_types.specs.declared.event.Event.TheVariants.{Retired}
use Rattle.scope_types.specs.declared.event.EventPeriod.{EventPeriod}
use Rattle.scope_types.specs.Order.{path_order}
use Rattle.scope_types.proofs.Orders.{path_order_total, path_order_tells}
use Rattle.tree_types.specs.declared.content.ContextEntry.{ContextEntry}
use Rattle.tree_types.specs.declared.content.Names.{Names}
use Rattle.tree_types.specs.declared.content.Kind.{Kind}
use Rattle.tree_types.specs.declared.content.Kind.TheVariants.{Frame, Inclusive}
use Rattle.tree_types.specs.declared.content.ProfileEntry.{ProfileEntry}
use Rattle.tree_types.specs.Paths.{Path, prefixes, after_prefix, rest_passes}
use Rattle.tree_types.specs.Nodes.{nodes, no_parent, own_scope, parent_number}
use Rattle.tree_types.specs.Values.{value, ends_here, counts_for, count_below, columns_below}
use Rattle.tree_types.specs.Planes.{kinds, profile_entry, context_entry, node_values, other_than_zero, profile_entries, context_entries, profile_plane, context_plane}
use Rattle.tree_types.specs.Naming.{Naming, procs_used, files_used}
use Rattle.tree_types.specs.Database.{content_of, event_content_of, names_used, node_list, period_at}
use Rattle.tree_types.specs.PathsOf.{entry_paths, event_paths_of, is_exclusive, paths_of, plane_paths}
use Rattle.scope_types.specs.Alike.{Alike}
use Rattle.tree_types.specs.TopDown.{header, table_row, percent, label, top_down}
use Rattle.tree_types.proofs.Sorting.{has, bool_same, same_sorted, equal_from_is, has-from_Contains}
use Rattle.tree_types.proofs.Counting.{one, count_by-cons, count_none, count_never, count_once, sums_swap}
use Rattle.tree_types.proofs.Prefixes.{after_again, after_is, passes_is}
use Rattle.tree_types.proofs.NodeLaws.{sorted_nodes, has_nodes, prefix_is_node}
use Rattle.tree_types.proofs.Totals.{one_within}
use Rattle.tree_types.proofs.TreePaths.{tree_paths_is}

pub sum_by-flat_map : {X Y : Type 0} (g : Y → ℕ) (f : X → List Y) (xs : List X) → sum_by g (flat_map f xs) ≡ sum_by (λ x. sum_by g (f x)) xs
sum_by-flat_map g f [] = refl
sum_by-flat_map g f (x ∷ xs) =
    sum_by-append g (f x) (flat_map f xs) ∙ ap (λ k. sum_by g (f x) + k) (sum_by-flat_map g f xs) ∙ sym (sum_by-cons (λ x. sum_by g (f x)) x xs)

pub sum_by-map : {X Y : Type 0} (g : Y → ℕ) (f : X → Y) (xs : List X) → sum_by g (map f xs) ≡ sum_by (λ x. g (f x)) xs
sum_by-map g f [] = refl
sum_by-map g f (x ∷ xs) = sum_by-cons g (f x) (map f xs) ∙ ap (λ k. g (f x) + k) (sum_by-map g f xs) ∙ sym (sum_by-cons (λ x. g (f x)) x xs)

-- elements that add nothing may be left out
pub sum_by-filter : {X : Type 0} (g : X → ℕ) (t : X → Bool) → ((x : X) → t x ≡ false → g x ≡ 0) → (xs : List X) → sum_by g (filter t xs) ≡ sum_by g xs
sum_by-filter g t nothing [] = refl
sum_by-filter {X} g t nothing (x ∷ xs) =
    elim (t x) as (λ b. t x ≡ b → sum_by g (cond b (x ∷ filter t xs) (filter t xs)) ≡ g x + sum_by g xs) [
      | true ↦ λ e. sum_by-cons g x (filter t xs) ∙ ap (λ k. g x + k) (sum_by-filter g t nothing xs)
      | false ↦ λ e. let z = nothing x e in let r = sum_by-filter g t nothing xs in omega arith
    ] refl ∙ sym (sum_by-cons g x xs)

pub enumerated : {X : Type 0} (F : ℕ → X) (a m : ℕ) → enumerate_from a (map F (range_with_len a m)) ≡ map (λ h. (h, F h)) (range_with_len a m)
enumerated F a zero = refl
enumerated {X} F a (suc m) = ap (λ (z : List (ℕ × X)). (a, F a) ∷ z) (enumerated F (a + 1) m)

-- a sum over the numbered elements that looks them up is a sum over the elements
looked_up : (φ : Path → Path → ℕ) (all : List Path) (a : ℕ) (xs : List Path) → ((k : ℕ) → k < length xs → get_or all (a + k) [] ≡ get_or xs k []) → sum_by (λ x. φ (get_or all x.0 []) x.1) (enumerate_from a xs) ≡ sum_by (λ m. φ m m) xs
looked_up φ all a [] at = refl
looked_up φ all a (x ∷ xs) at =
    let here : get_or all a [] ≡ x = ap (λ (j : ℕ). get_or all j []) (let e : a ≡ a + 0 = omega arith in e) ∙ at 0 (omega arith) in
    let rest = looked_up φ all (a + 1) xs (λ k lt. ap (λ (j : ℕ). get_or all j []) (let e : (a + 1) + k ≡ a + suc k = omega arith in e) ∙ at (suc k) (omega arith)) in
    sum_by-cons (λ (y : ℕ × Path). φ (get_or all y.0 []) y.1) (a, x) (enumerate_from (a + 1) xs) ∙ (λ i. φ (here i) x + rest i) ∙ sym (sum_by-cons (λ m. φ m m) x xs)

count_copies : {X : Type 0} (q : X → Bool) (k : ℕ) (x : X) → count_by q (replicate k x) ≡ one (q x) * k
count_copies q zero x = sym (mul-zero (one (q x)))
count_copies q (suc k) x =
    count_by-cons q x (replicate k x) ∙ ap (λ n. one (q x) + n) (count_copies q k x) ∙ elim (q x) as (λ b. one b + one b * k ≡ one b * suc k) [ true ↦ omega arith | false ↦ omega arith ]

pub count_by-flat_map : {X Y : Type 0} (q : Y → Bool) (f : X → List Y) (xs : List X) → count_by q (flat_map f xs) ≡ sum_by (λ x. count_by q (f x)) xs
count_by-flat_map q f xs = sum_by-flat_map (λ y. one (q y)) f xs

abbrev pub at_column : ℕ → Path → ColumnPath
at_column column path = record { column = column; path = path }

-- what counts below n
abbrev counts : (Path → Bool) → ℕ → Path → ColumnPath → Bool
counts test column n p = (p.column == column) && rest_passes test (after_prefix n p.path)

module _ (period : ℕ → ℕ) (ps : List ColumnPath) (positive : (column : ℕ) → 0 < period column) (q : ColumnPath → Bool) where
  abbrev from_entry : ℕ → ProfileEntry → ℕ
  from_entry column e = count_by q (entry_paths (period column) (nodes ps) column e)

  no_value : (column : ℕ) (e : ProfileEntry) → not (e.value == 0) ≡ false → from_entry column e ≡ 0
  no_value column e none =
      let z : e.value ≡ 0 = eqb-true e.value 0 (not_not (e.value == 0) none) in
      elim (is_exclusive e.kind) as (λ b. count_by q (cond b (replicate (e.value / period column) (at_column column (get_or (nodes ps) e.node []))) []) ≡ 0) [
        | true ↦ ap (λ (k : ℕ). count_by q (replicate k (at_column column (get_or (nodes ps) e.node [])))) (ap (λ (v : ℕ). v / period column) z ∙ zero_over (period column))
        | false ↦ refl
      ]
    where
      not_not : (b : Bool) → not b ≡ false → b ≡ true
      not_not true e = refl
      not_not false e = absurd (true≢false e)

      zero_over : (p : ℕ) → 0 / p ≡ 0
      zero_over p = omega arith

  from_node : (column : ℕ) (x : ℕ × Path) → sum_by (from_entry column) (node_values period ps column x) ≡ one (q (at_column column (get_or (nodes ps) x.0 []))) * count_below ends_here ps column x.1
  from_node column x =
      let y : ColumnPath = at_column column (get_or (nodes ps) x.0 []) in
      let k : ℕ = count_below ends_here ps column x.1 in
      let p : ℕ = period column in
      let whole : (p * k) / p ≡ k = ap (λ (v : ℕ). v / p) (mul_comm p k) ∙ mul-div_cancel k (positive column) in
      let a : sum_by (from_entry column) (node_values period ps column x) ≡ count_by q (replicate ((p * k) / p) y) = three (count_by q (replicate ((p * k) / p) y)) in
      a ∙ ap (λ (j : ℕ). count_by q (replicate j y)) whole ∙ count_copies q k y
    where
      three : (n : ℕ) → ((0 + n) + 0) + 0 ≡ n
      three n = omega arith

  from_column : (column : ℕ) → sum_by (from_entry column) (profile_entries period ps column) ≡ sum_by (λ m. one (q (at_column column m)) * count_below ends_here ps column m) (nodes ps)
  unfolding profile_entries
  from_column column =
      sum_by-filter (from_entry column) (λ e. not (e.value == 0)) (no_value column) (flat_map (node_values period ps column) (enumerate_from 0 (nodes ps)))
      ∙ sum_by-flat_map (from_entry column) (node_values period ps column) (enumerate_from 0 (nodes ps))
      ∙ (λ i. sum_by (λ x. from_node column x i) (enumerate_from 0 (nodes ps)))
      ∙ looked_up (λ a b. one (q (at_column column a)) * count_below ends_here ps column b) (nodes ps) 0 (nodes ps) (λ k lt. ap (λ (j : ℕ). get_or (nodes ps) j []) (let e : 0 + k ≡ k = omega arith in e))

  pub from_all : (columns : ℕ) → length (nodes ps) ≤ no_parent → count_by q (plane_paths period (node_list ps) (profile_plane period columns ps)) ≡ sum_by (λ h. sum_by (λ m. one (q (at_column h m)) * count_below ends_here ps h m) (nodes ps)) (columns_below columns)
  from_all columns few =
      ap (λ (t : List Path). count_by q (flat_map (λ numbered. flat_map (entry_paths (period numbered.0) t numbered.0) numbered.1) (enumerate_from 0 (map (profile_entries period ps) (columns_below columns))))) (tree_paths_is ps few)
      ∙ count_by-flat_map q (λ (list : ℕ × List ProfileEntry). flat_map (entry_paths (period list.0) (nodes ps) list.0) list.1) (enumerate_from 0 (map (profile_entries period ps) (columns_below columns)))
      ∙ (λ i. sum_by (λ (list : ℕ × List ProfileEntry). count_by-flat_map q (entry_paths (period list.0) (nodes ps) list.0) list.1 i) (enumerated (profile_entries period ps) 0 columns i))
      ∙ sum_by-map (λ (list : ℕ × List ProfileEntry). sum_by (from_entry list.0) list.1) (λ h. (h, profile_entries period ps h)) (columns_below columns)
      ∙ (λ i. sum_by (λ h. from_column h i) (columns_below columns))

one_times_count : {X : Type 0} (b : Bool) (t : X → Bool) (xs : List X) → one b * count_by t xs ≡ count_by (λ x. b && t x) xs
one_times_count true t xs = omega arith
one_times_count false t xs = let z = count_never (λ x. false && t x) xs (λ x. refl) in omega arith

empty_is : (r : Path) → ends_here r ≡ true → r ≡ []
empty_is [] e = refl
empty_is (s ∷ r) e = absurd (true≢false (sym e))

-- a path is counted at its own column and node
at_own : (q : ColumnPath → Bool) (h : ℕ) (p : ColumnPath) (m : Path) → (q (at_column h m) && counts ends_here h m p) ≡ (eq_by_cmp path_order p.path m && ((p.column == h) && q p))
at_own q h p m =
    bool_same (q (at_column h m) && counts ends_here h m p) (eq_by_cmp path_order p.path m && ((p.column == h) && q p))
    (λ k.
    let a = and_parts (q (at_column h m)) (counts ends_here h m p) k in
    let b = and_parts (p.column == h) (rest_passes ends_here (after_prefix m p.path)) a.1 in
    let c = passes_is ends_here (after_prefix m p.path) b.1 in
    let path_is : p.path ≡ m = after_is m p.path c.0 c.1 ∙ ap (λ (x : Path). m ++ x) (empty_is c.0 c.2) ∙ append-nil m in
    let column_is : p.column ≡ h = eqb-true p.column h b.0 in
    and_from (eq_by_cmp path_order p.path m) ((p.column == h) && q p)
    (subst (λ (z : Path). eq_by_cmp path_order p.path z ≡ true) path_is (ap is_eq (tied_itself path_order_total p.path)))
    (and_from (p.column == h) (q p) b.0 ((λ i. q (at_column (column_is i) (path_is i))) ∙ a.0)))
    (λ k.
    let a = and_parts (eq_by_cmp path_order p.path m) ((p.column == h) && q p) k in
    let b = and_parts (p.column == h) (q p) a.1 in
    let path_is : p.path ≡ m = path_order_tells p.path m (equal_from_is (path_order p.path m) a.0) in
    let column_is : p.column ≡ h = eqb-true p.column h b.0 in
    let after_own : after_prefix m p.path ≡ after_prefix m (m ++ []) = ap (after_prefix m) (path_is ∙ sym (append-nil m)) in
    and_from (q (at_column h m)) (counts ends_here h m p) ((λ i. q (at_column (sym column_is i) (sym path_is i))) ∙ b.1)
    (and_from (p.column == h) (rest_passes ends_here (after_prefix m p.path)) b.0 (ap (rest_passes ends_here) (after_own ∙ after_again m []))))

-- each path of the list is a node, which is in the list once
once_in : (ns : List Path) (x : Path) (b : Bool) → IsStrictlySortedBy path_order ns → has path_order x ns ≡ true → count_by (λ m. eq_by_cmp path_order x m && b) ns ≡ one b
once_in ns x true sorted there = (λ i. count_by (λ m. and_true (eq_by_cmp path_order x m) i) ns) ∙ count_once path_order_tells x ns sorted there
once_in ns x false sorted there = count_never (λ m. eq_by_cmp path_order x m && false) ns (λ m. and_false (eq_by_cmp path_order x m))

of_column : (q : ColumnPath → Bool) (h : ℕ) (ns : List Path) → IsStrictlySortedBy path_order ns → (qs : List ColumnPath) → AllByRecursion (λ p. has path_order p.path ns ≡ true) qs
    → sum_by (λ p. count_by (λ m. q (at_column h m) && counts ends_here h m p) ns) qs ≡ count_by (λ p. (p.column == h) && q p) qs
of_column q h ns sorted [] all = refl
of_column q h ns sorted (p ∷ qs) all =
    let f = λ (p : ColumnPath). count_by (λ m. q (at_column h m) && counts ends_here h m p) ns in
    let t = λ (p : ColumnPath). (p.column == h) && q p in
    let here : f p ≡ one (t p) = (λ i. count_by (λ m. at_own q h p m i) ns) ∙ once_in ns p.path (t p) sorted all.0 in
    sum_by-cons f p qs ∙ (λ i. here i + of_column q h ns sorted qs all.1 i) ∙ sym (count_by-cons t p qs)

over_columns : (q : ColumnPath → Bool) (columns : ℕ) (qs : List ColumnPath) → AllByRecursion (λ p. p.column < columns) qs
    → sum_by (λ p. count_by (λ h. (p.column == h) && q p) (columns_below columns)) qs ≡ count_by q qs
over_columns q columns [] all = refl
over_columns q columns (p ∷ qs) all =
    let f = λ (p : ColumnPath). count_by (λ h. (p.column == h) && q p) (columns_below columns) in
    sum_by-cons f p qs ∙ (λ i. once (q p) i + over_columns q columns qs all.1 i) ∙ sym (count_by-cons q p qs)
  where
    once : (b : Bool) → count_by (λ h. (p.column == h) && b) (columns_below columns) ≡ one b
    once true = (λ i. count_by (λ h. and_true (p.column == h) i) (columns_below columns)) ∙ one_within 0 columns p.column (omega arith) (let k = all.0 in omega arith)
    once false = count_never (λ h. (p.column == h) && false) (columns_below columns) (λ h. and_false (p.column == h))

-- where each path is a node and each column is below the number of columns, the counts at the nodes are all
pub counted_at_nodes : (ns : List Path) (columns : ℕ) (q : ColumnPath → Bool) (qs : List ColumnPath) → IsStrictlySortedBy path_order ns → AllByRecursion (λ p. has path_order p.path ns ≡ true) qs → AllByRecursion (λ p. p.column < columns) qs
    → sum_by (λ h. sum_by (λ m. one (q (at_column h m)) * count_below ends_here qs h m) ns) (columns_below columns) ≡ count_by q qs
unfolding count_below
counted_at_nodes ns columns q qs sorted there below =
    let each : (h : ℕ) → sum_by (λ m. one (q (at_column h m)) * count_below ends_here qs h m) ns ≡ count_by (λ p. (p.column == h) && q p) qs = λ h.
    (λ i. sum_by (λ m. one_times_count (q (at_column h m)) (counts ends_here h m) qs i) ns)
    ∙ sums_swap (λ (m : Path) (p : ColumnPath). q (at_column h m) && counts ends_here h m p) ns qs ∙ of_column q h ns sorted qs there in
    (λ i. sum_by (λ h. each h i) (columns_below columns))
    ∙ sums_swap (λ (h : ℕ) (p : ColumnPath). (p.column == h) && q p) (columns_below columns) qs
    ∙ over_columns q columns qs below

-- the paths that nodes and a plane have count as the paths that these were made of
counts_again : (period : ℕ → ℕ) (columns : ℕ) (ps : List ColumnPath) (q : ColumnPath → Bool) → ((column : ℕ) → 0 < period column) → length (nodes ps) ≤ no_parent → All (λ p. 0 < length p.path) ps → All (λ p. p.column < columns) ps
    → count_by q (plane_paths period (node_list ps) (profile_plane period columns ps)) ≡ count_by q ps
counts_again period columns ps q positive few some below =
    let ns : List Path = nodes ps in
    let there : AllByRecursion (λ (p : ColumnPath). has path_order p.path ns ≡ true) ps =
    are_nodes ps ps (recursion_from_All (Contains ps) ps (All-contains_itself ps)) (recursion_from_All (λ (p : ColumnPath). 0 < length p.path) ps some) in
    from_all period ps positive q columns few
    ∙ counted_at_nodes ns columns q ps (sorted_nodes ps) there (recursion_from_All (λ (p : ColumnPath). p.column < columns) ps below)
  where
    are_nodes : (ps qs : List ColumnPath) → AllByRecursion (Contains ps) qs → AllByRecursion (λ (p : ColumnPath). 0 < length p.path) qs → AllByRecursion (λ (p : ColumnPath). has path_order p.path (nodes ps) ≡ true) qs
    are_nodes ps [] all some = tt
    are_nodes ps (q ∷ qs) all some =
        (has-from_Contains path_order_total path_order_tells q.path (nodes ps) (prefix_is_node ps q q.path all.0 (record { some = some.0; rest = []; parts = sym (append-nil q.path) })), are_nodes ps qs all.1 some.1)

-- ---- and so the content is that of its paths

pub count_some : {X : Type 0} (t : X → Bool) (xs : List X) → list_any t xs ≡ true → 0 < count_by t xs
count_some t [] e = absurd (true≢false (sym e))
count_some t (x ∷ xs) e =
    let c = count_by-cons t x xs in
    elim (t x) as (λ b. (b || list_any t xs) ≡ true → one (t x) ≡ one b → 0 < count_by t (x ∷ xs)) [
      | true ↦ λ k o. omega arith
      | false ↦ λ k o. let r = count_some t xs k in omega arith
    ] e refl

same_any : {X : Type 0} (t : X → Bool) (xs ys : List X) → count_by t xs ≡ count_by t ys → list_any t xs ≡ list_any t ys
same_any t xs ys e = bool_same (list_any t xs) (list_any t ys) (λ k. from xs ys e k) (λ k. from ys xs (sym e) k)
  where
    from : (xs ys : List _) → count_by t xs ≡ count_by t ys → list_any t xs ≡ true → list_any t ys ≡ true
    from xs ys e k = true_from_ne_false (list_any t ys) (λ f. let a = count_some t xs k in let b = count_none t ys f in absurd (omega arith))

pub nodes_alike : (ps qs : List ColumnPath) → Alike ps qs → nodes ps ≡ nodes qs
nodes_alike ps qs alike =
    same_sorted path_order_total path_order_tells (nodes ps) (nodes qs) (sorted_nodes ps) (sorted_nodes qs) (λ n.
    has_nodes ps n ∙ same_any (λ p. has path_order n (prefixes p.path)) ps qs (alike.same (λ p. has path_order n (prefixes p.path))) ∙ sym (has_nodes qs n))

pub values_alike : (period : ℕ) (ps qs : List ColumnPath) → Alike ps qs → (column : ℕ) (n : Path) (kind : Kind) → value period ps column n kind ≡ value period qs column n kind
unfolding count_below
values_alike period ps qs alike column n kind = ap (λ (k : ℕ). period * k) (alike.same (counts (counts_for kind) column n))

pub all_count : (ps : List ColumnPath) → count_by (λ (p : ColumnPath). true) ps ≡ length ps
all_count [] = refl
all_count (p ∷ ps) = let a = count_by-cons (λ (p : ColumnPath). true) p ps in let b = all_count ps in omega arith

-- names, planes and a table, from the nodes and the values alone
abbrev names_from : Naming → List Path → Names
names_from naming ns = record {
  procs = map (λ id. record { id = id; name = naming.proc_name id }) (procs_used ns);
  files = map (λ f. record { table = f.0; file = f.1; name = naming.file_name f.0 f.1 }) (files_used ns);
}

pub names_alike : (naming : Naming) (ps qs : List ColumnPath) → Alike ps qs → names_used naming ps ≡ names_used naming qs
names_alike naming ps qs alike = ap (names_from naming) (nodes_alike ps qs alike)

pub listed_alike : (ps qs : List ColumnPath) → Alike ps qs → node_list ps ≡ node_list qs
listed_alike ps qs alike = ap (λ (ns : List Path). map (λ n. record { parent = parent_number ns n; scope = own_scope n }) ns) (nodes_alike ps qs alike)

abbrev profiles_from : ℕ → List Path → (ℕ → Path → Kind → ℕ) → List (List ProfileEntry)
profiles_from columns ns v =
    map (λ column. other_than_zero (flat_map (λ (n : ℕ × Path). map (λ kind. profile_entry n.0 kind (v column n.1 kind)) kinds) (enumerate_from 0 ns))) (columns_below columns)

profiles_are : (period : ℕ → ℕ) (columns : ℕ) (ps : List ColumnPath) → profile_plane period columns ps ≡ profiles_from columns (nodes ps) (λ column. value (period column) ps column)
unfolding profile_entries
profiles_are period columns ps = refl

pub profiles_alike : (period : ℕ → ℕ) (columns : ℕ) (ps qs : List ColumnPath) → Alike ps qs → profile_plane period columns ps ≡ profile_plane period columns qs
profiles_alike period columns ps qs alike =
    profiles_are period columns ps
    ∙ (λ i. profiles_from columns (nodes_alike ps qs alike i) (λ column n kind. values_alike (period column) ps qs alike column n kind i))
    ∙ sym (profiles_are period columns qs)

abbrev contexts_from : ℕ → List Path → (ℕ → Path → Kind → ℕ) → List (List ContextEntry)
contexts_from columns ns v =
    map (λ n. flat_map (λ kind. filter (λ e. not (e.value == 0)) (map (λ column. context_entry kind column (v column n kind)) (columns_below columns))) kinds) ns

contexts_are : (period : ℕ → ℕ) (columns : ℕ) (ps : List ColumnPath) → context_plane period columns ps ≡ contexts_from columns (nodes ps) (λ column. value (period column) ps column)
unfolding context_entries
contexts_are period columns ps = refl

pub contexts_alike : (period : ℕ → ℕ) (columns : ℕ) (ps qs : List ColumnPath) → Alike ps qs → context_plane period columns ps ≡ context_plane period columns qs
contexts_alike period columns ps qs alike =
    contexts_are period columns ps
    ∙ (λ i. contexts_from columns (nodes_alike ps qs alike i) (λ column n kind. values_alike (period column) ps qs alike column n kind i))
    ∙ sym (contexts_are period columns qs)

pub content_alike : (period columns : ℕ) (naming : Naming) (ps qs : List ColumnPath) → Alike ps qs → content_of period columns naming ps ≡ content_of period columns naming qs
unfolding content_of
content_alike period columns naming ps qs alike = λ i. record {
  period = period;
  columns = columns;
  names = names_alike naming ps qs alike i;
  nodes = listed_alike ps qs alike i;
  profiles = profiles_alike (λ column. period) columns ps qs alike i;
  contexts = contexts_alike (λ column. period) columns ps qs alike i;
}

pub event_content_alike : (events : List EventPeriod) (runs : List ℕ) (naming : Naming) (ps qs : List ColumnPath) → Alike ps qs → event_content_of events runs naming ps ≡ event_content_of events runs naming qs
unfolding event_content_of
event_content_alike events runs naming ps qs alike = λ i. record {
  events = events;
  runs = runs;
  names = names_alike naming ps qs alike i;
  nodes = listed_alike ps qs alike i;
  profiles = profiles_alike (period_of_column (periods_of events)) (columns_of (length events) runs) ps qs alike i;
  contexts = contexts_alike (period_of_column (periods_of events)) (columns_of (length events) runs) ps qs alike i;
}

abbrev table_from : ℕ → ℕ → Naming → List Path → (ℕ → Path → Kind → ℕ) → ℕ → List ℕ
table_from period columns naming ns v samples =
    header ++ flat_map (λ n.
    let inclusive = sum_by (λ column. v column n Inclusive) (columns_below columns) in
    table_row (decimal inclusive) (percent inclusive (period * samples)) (decimal (sum_by (λ column. v column n Frame) (columns_below columns))) (length n - 1) (label naming (own_scope n))) ns

table_is : (period columns : ℕ) (naming : Naming) (ps : List ColumnPath) → top_down period columns naming ps ≡ table_from period columns naming (nodes ps) (value period ps) (length ps)
unfolding top_down
table_is period columns naming ps = refl

pub table_alike : (period columns : ℕ) (naming : Naming) (ps qs : List ColumnPath) → Alike ps qs → top_down period columns naming ps ≡ top_down period columns naming qs
table_alike period columns naming ps qs alike =
    let samples : length ps ≡ length qs = sym (all_count ps) ∙ alike.same (λ p. true) ∙ all_count qs in
    table_is period columns naming ps
    ∙ (λ i. table_from period columns naming (nodes_alike ps qs alike i) (λ column n kind. values_alike period ps qs alike column n kind i) (samples i))
    ∙ sym (table_is period columns naming qs)

-- each event's period is above 0, and so is each column's
pub period_positive : (events : List EventPeriod) (place : ℕ) → AreEvents events → place < length events → 0 < period_at events place
period_positive events place are inside =
    let d : EventPeriod = record { event = Retired; period = 0 } in
    let is : period_at events place ≡ (get_or events place d).period = get_or-map (λ (e : EventPeriod). e.period) events place d 0 inside in
    let least = are.periods place d inside in
    omega (arith, is, least)

pub periods_positive : (events : List EventPeriod) → AreEvents events → (column : ℕ) → 0 < period_of_column (periods_of events) column
periods_positive events are column =
    let long = length-map events (λ (e : EventPeriod). e.period) in
    let some = are.some in
    let below = mod_below column (length (periods_of events)) (omega (arith, long, some)) in
    period_positive events (column % length (periods_of events)) are (omega (arith, below, long))

pub alike_from_permutation : (ps qs : List ColumnPath) → IsPermutation ps qs → Alike ps qs
alike_from_permutation ps qs h = record { same = λ t. sym (sum_by-IsPermutation (λ p. one (t p)) ps qs h) }

pub paths_alike : (period columns : ℕ) (naming : Naming) (ps : List ColumnPath) → 0 < period → length (nodes ps) ≤ no_parent → All (λ p. 0 < length p.path) ps → All (λ p. p.column < columns) ps → Alike (paths_of (content_of period columns naming ps)) ps
unfolding paths_of content_of
paths_alike period columns naming ps positive few some below = record { same = λ t. counts_again (λ column. period) columns ps t (λ column. positive) few some below }

-- and so do those of a content of several events
pub event_paths_alike : (events : List EventPeriod) (runs : List ℕ) (naming : Naming) (ps : List ColumnPath) → AreEvents events → length (nodes ps) ≤ no_parent → All (λ p. 0 < length p.path) ps
    → All (λ p. p.column < columns_of (length events) runs) ps → Alike (event_paths_of (event_content_of events runs naming ps)) ps
unfolding event_paths_of event_content_of
event_paths_alike events runs naming ps are few some below = record {
  same = λ t. counts_again (period_of_column (periods_of events)) (columns_of (length events) runs) ps t (periods_positive events are) few some below;
}

pub ruleset alike_laws = (nodes_alike, content_alike, table_alike, alike_from_permutation)
