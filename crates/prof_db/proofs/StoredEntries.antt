-- The entries of a stored content's profile plane are those that its paths give.
use Rattle.std.proofs.Common.{◌≡◌, ℕ, zero, suc, ◌+◌, ◌-◌, ◌*◌, ◌/◌, ◌%◌, ◌^◌, ◌<◌, ◌≤◌, ◌==◌, ◌&&◌, ◌||◌, not, nat_le, Bool, true, false, List, [], ◌∷◌, ◌++◌, length, get_or, map, take, filter, count_by, sum_by, replicate, All, AllPairs, Contains, Less, Equal, Greater, Ordering, true≢false, inl, inr, refl, sym, ap, ap₂, subst, ◌∙◌, arith}
use Rattle.std.specs.Prelude.{◌⊎◌}
use Rattle.std.specs.List.{enumerate_from, flat_map, list_any, range_with_len}
use Rattle.std.specs.Ordering.{nat_cmp, ordering_then}
use Rattle.std.proofs.Math.Nat.{mul-mod_right}
use Rattle.std.proofs.lemmas.Bool.{and_from, and_parts, cases_order, eq-eqb, eqb-true, le-leb, lt-ltb, ne_eqb, or_right}
use Rattle.std.proofs.lemmas.Bool.Decides.{nat_tests}
use Rattle.std.proofs.lemmas.Cmp.{nat_cmp_total, tied_itself}
use Rattle.std.proofs.lemmas.List.{append-nil, map-append}
use Rattle.std.proofs.lemmas.List.Concat.{flat_map-append}
use Rattle.std.proofs.lemmas.List.Elements.{All-append, All-filter, All-get_or, All-head, All-map, All-nil, All-tail, All-weaker, filter-append, filter_passes}
use Rattle.std.proofs.lemmas.List.Folds.{Any-from_list_any}
use Rattle.std.proofs.lemmas.List.Kept.{AllPairs-cons, AllPairs-filter}
use Rattle.std.proofs.lemmas.List.Sums.{count_by-le-length, sum_by-take-le}
use Rattle.scope_types.specs.CallPaths.{ColumnPath}
use Rattle.scope_types.specs.Columns.{columns_of, period_of_column}
use Rattle.scope_types.specs.Events.{periods_of}
use Rattle.scope_types.specs.Limits.{most_samples}
use Rattle.tree_types.specs.NodeValues.{kind_rank, node_value, value_order, values_at_node, values_for_column, values_of}
use Rattle.tree_types.specs.Nodes.{no_parent, nodes}
use Rattle.tree_types.specs.Paths.{Path, after_prefix, rest_passes}
use Rattle.tree_types.specs.PathsOf.{entry_paths, event_paths_of, tree_paths}
use Rattle.tree_types.specs.Planes.{kinds}
use Rattle.tree_types.specs.Tree.{CountedTree, counted_path, node_at, node_path, paths_in}
use Rattle.tree_types.specs.ValuePlanes.{entries_by_column, entries_by_node, column_entries, in_profile, node_entries}
use Rattle.tree_types.specs.Values.{count_below, counts_for, ends_here, columns_below, value}
use Rattle.tree_types.specs.declared.content.EventContent.{EventContent}
use Rattle.tree_types.specs.declared.content.Kind.{Kind}
use Rattle.tree_types.specs.declared.content.Kind.TheVariants.{Exclusive, Frame, Inclusive}
use Rattle.tree_types.specs.declared.content.Node.{Node}
use Rattle.tree_types.specs.declared.content.ProfileEntry.{ProfileEntry}
use Rattle.tree_types.specs.declared.counted_tree.NodeCount.{NodeCount}
use Rattle.tree_types.specs.declared.node_values.NodeValue.{NodeValue}
use Rattle.tree_types.proofs.Bounds.{small_product}
use Rattle.tree_types.proofs.EventParts.{own_contexts, own_nodes, own_profiles}
use Rattle.tree_types.proofs.Counting.{count_none}
use Rattle.tree_types.proofs.PathsAgain.{enumerated}
use Rattle.tree_types.proofs.Prefixes.{after_is, passes_is}
use Rattle.tree_types.proofs.Selecting.{flat_map_of_map, map_of_map}
use Rattle.tree_types.proofs.TreeLaws.{paths_in_tree}
use Rattle.tree_types.proofs.ValuePlanes.{contexts_are, profiles_are}
use Rattle.tree_types.proofs.WholeValues.{are_values}
use Rattle.prof_db.specs.declared.raw.RawEntry.{RawEntry}
use Rattle.prof_db.specs.NodeRules.{is_statement}
use Rattle.prof_db.specs.Stored.{IsEventStored, IsWord}
use Rattle.prof_db.specs.ValueRules.{entry_count, entries_ascend, entry_at, entry_breaks, is_exclusive_entry, is_value, entry_samples, tree_of}
use Rattle.prof_db.proofs.Exclusive.{first_up, samples_are, second_up, third_up}
use Rattle.prof_db.proofs.ForthPlanes.{raw_list, raw_entry}
use Rattle.prof_db.proofs.Heads.{small_of_column}
use Rattle.prof_db.proofs.OwnNames.{all_lists, pairs_map}
use Rattle.prof_db.proofs.StoredNodes.{ends_at_statement, few_paths}

-- ---- entries, and the paths that they count

module _ (period : ℕ → ℕ) (ns : List Node) where
  abbrev copies : NodeCount → List ColumnPath
  copies c = replicate c.count (counted_path ns c)

  abbrev of_entries : List RawEntry → List ColumnPath
  of_entries es = flat_map copies (map (entry_count period) (filter is_exclusive_entry es))

  entries_append : (a b : List RawEntry) → of_entries (a ++ b) ≡ of_entries a ++ of_entries b
  entries_append a b =
      ap (λ (es : List RawEntry). flat_map copies (map (entry_count period) es)) (filter-append is_exclusive_entry a b)
      ∙ ap (flat_map copies) (map-append (entry_count period) (filter is_exclusive_entry a) (filter is_exclusive_entry b))
      ∙ flat_map-append copies (map (entry_count period) (filter is_exclusive_entry a)) (map (entry_count period) (filter is_exclusive_entry b))

  list_paths : (column : ℕ) (es : List ProfileEntry) → of_entries (map (raw_entry column) es) ≡ flat_map (entry_paths (period column) (tree_paths ns) column) es
  list_paths column [] = refl
  list_paths column (e ∷ es) =
      entries_append (raw_entry column e ∷ []) (map (raw_entry column) es) ∙ ap₂ (λ (a b : List ColumnPath). a ++ b) (one e.kind) (list_paths column es)
    where
      one : (kind : Kind) → of_entries (record { offset = 0; column = column; node = e.node; kind = kind_rank kind; value = e.value } ∷ [])
          ≡ entry_paths (period column) (tree_paths ns) column (record { node = e.node; kind = kind; value = e.value })
      one Exclusive = append-nil (replicate (e.value / period column) (record { column = column; path = node_path ns e.node }))
      one Frame = refl
      one Inclusive = refl

  lists_paths : (lists : List (ℕ × List ProfileEntry)) → of_entries (flat_map raw_list lists) ≡ flat_map (λ numbered. flat_map (entry_paths (period numbered.0) (tree_paths ns) numbered.0) numbered.1) lists
  lists_paths [] = refl
  lists_paths (list ∷ lists) =
      entries_append (raw_list list) (flat_map raw_list lists) ∙ ap₂ (λ (a b : List ColumnPath). a ++ b) (list_paths list.0 list.1) (lists_paths lists)

-- ---- lists by a rising number

module _ {Y : Type 0} (R : Y → Y → Type 0) (key : Y → ℕ) (f : ℕ → List Y) (rises : (x y : Y) → key x < key y → R x y) (own : (j : ℕ) → All (λ y. key y ≡ j) (f j)) (each : (j : ℕ) → AllPairs R (f j)) where
  joined : (xs ys : List Y) → All (λ x. All (R x) ys) xs → AllPairs R xs → AllPairs R ys → AllPairs R (xs ++ ys)
  joined [] ys below a b = b
  joined (x ∷ xs) ys below a b =
      AllPairs-cons R x (xs ++ ys)
      (All-append (R x) xs ys (λ i d lt. a 0 (suc i) d (omega arith) (omega arith)) (All-head (λ (x : Y). All (R x) ys) x xs below))
      (joined xs ys (All-tail (λ (x : Y). All (R x) ys) x xs below) (λ i j d less lt. a (suc i) (suc j) d (omega arith) (omega arith)) b)

  later : (a n : ℕ) → All (λ y. a ≤ key y) (flat_map f (range_with_len a n))
  later a zero = All-nil (λ (y : Y). a ≤ key y)
  later a (suc n) =
      All-append (λ (y : Y). a ≤ key y) (f a) (flat_map f (range_with_len (a + 1) n))
      (All-weaker (λ (y : Y). key y ≡ a) (λ y. a ≤ key y) (λ y e. omega (arith, e)) (f a) (own a))
      (All-weaker (λ (y : Y). a + 1 ≤ key y) (λ y. a ≤ key y) (λ y le. omega (arith, le)) (flat_map f (range_with_len (a + 1) n)) (later (a + 1) n))

  pub ranged_pairs : (a n : ℕ) → AllPairs R (flat_map f (range_with_len a n))
  ranged_pairs a zero = λ i j d less lt. absurd (omega arith)
  ranged_pairs a (suc n) =
      let rest : List Y = flat_map f (range_with_len (a + 1) n) in
      joined (f a) rest
      (All-weaker (λ (y : Y). key y ≡ a) (λ y. All (R y) rest) (λ y e. All-weaker (λ (z : Y). a + 1 ≤ key z) (R y) (λ z le. rises y z (omega (arith, e, le))) rest (later (a + 1) n)) (f a) (own a))
      (each a) (ranged_pairs (a + 1) n)

-- ---- the order of values and of entries

pub less_is : (m n : ℕ) → nat_cmp m n ≡ Less → m < n
less_is m n e = grind (arith, nat_tests)

pub is_greater : (m n : ℕ) → n < m → nat_cmp m n ≡ Greater
is_greater m n more = grind (arith, nat_tests)

pub only_less : (o : Ordering) → ordering_then o Equal ≡ Less → o ≡ Less
only_less Less e = refl
only_less Equal e = absurd cc
only_less Greater e = absurd cc

pub never_less : Greater ≡ Less → ⊥
never_less e = absurd cc

-- what ascends in three numbers, of which the first is the same to both
last_two_up : (a b c x y z : ℕ) → ordering_then (nat_cmp a x) (ordering_then (nat_cmp b y) (ordering_then (nat_cmp c z) Equal)) ≡ Less → b ≡ y → (a < x) ⊎ ((a ≡ x) × (c < z))
last_two_up a b c x y z e same = elim (cases_order a x) [
  | inl is ↦
      let first : nat_cmp a x ≡ Equal = ap (λ (n : ℕ). nat_cmp n x) is ∙ tied_itself nat_cmp_total x in
      let second : nat_cmp b y ≡ Equal = ap (λ (n : ℕ). nat_cmp n y) same ∙ tied_itself nat_cmp_total y in
      inr (is, less_is c z (only_less (nat_cmp c z) (sym (λ i. ordering_then (first i) (ordering_then (second i) (ordering_then (nat_cmp c z) Equal))) ∙ e)))
  | inr (inl less) ↦ inl less
  | inr (inr more) ↦ absurd (never_less (sym (ap (λ o. ordering_then o (ordering_then (nat_cmp b y) (ordering_then (nat_cmp c z) Equal))) (is_greater a x more)) ∙ e))
]

kind_few : (kind : Kind) → kind_rank kind < 3
kind_few Exclusive = omega arith
kind_few Frame = omega arith
kind_few Inclusive = omega arith

exclusive_is : (kind : Kind) → kind_rank kind ≡ 0 → kind ≡ Exclusive
exclusive_is Exclusive e = refl
exclusive_is Frame e = absurd (omega arith)
exclusive_is Inclusive e = absurd (omega arith)

module _ (c : EventContent) (s : IsEventStored c) where
  abbrev ns : List Node
  ns = c.nodes

  abbrev ps : List ColumnPath
  ps = event_paths_of c

  abbrev pub period : ℕ → ℕ
  period = period_of_column (periods_of c.events)

  abbrev pub columns : ℕ
  columns = columns_of (length c.events) c.runs

  abbrev pub entries : List RawEntry
  entries = flat_map raw_list (enumerate_from 0 c.profiles)

  abbrev pub tree : CountedTree
  tree = tree_of period columns ns entries

  pub paths_are : paths_in tree ≡ ps
  unfolding paths_in event_paths_of
  paths_are = lists_paths period ns (enumerate_from 0 c.profiles)

  few : length (nodes ps) ≤ no_parent
  few = few_paths c s

  pub by_column : entries_by_column (values_of period tree) ≡ c.profiles
  by_column =
      profiles_are period tree ps (record { same = λ t. ap (count_by t) paths_are }) (own_nodes c s.profile.own) few
      ∙ sym (own_profiles c s.profile.own)

  pub by_node : entries_by_node (values_of period tree) ≡ c.contexts
  by_node =
      contexts_are period tree ps (record { same = λ t. ap (count_by t) paths_are }) (own_nodes c s.profile.own) few
      ∙ sym (own_contexts c s.profile.own)

  -- ---- the values

  abbrev pub values : List NodeValue
  values = (values_of period tree).entries

  pub profiles_by_value : c.profiles ≡ map (column_entries values) (columns_below columns)
  unfolding entries_by_column values_of
  profiles_by_value = sym by_column

  pub contexts_by_value : c.contexts ≡ map (node_entries values) (range_with_len 0 (length ns))
  unfolding entries_by_node values_of
  contexts_by_value = sym by_node

  abbrev pub IsOwn : NodeValue → Type 0
  IsOwn v = v.value ≡ value (period v.column) (paths_in tree) v.column (node_path ns v.node) v.kind

  own_values : All IsOwn values
  unfolding values_of
  own_values =
      All-filter (λ (v : NodeValue). not (v.value == 0)) IsOwn (flat_map (values_at_node period tree) (range_with_len 0 (length ns)))
      (all_lists IsOwn (values_at_node period tree) (range_with_len 0 (length ns)) (λ i d lt. at_node (get_or (range_with_len 0 (length ns)) i d)))
    where
      at_node : (node : ℕ) → All IsOwn (values_at_node period tree node)
      at_node node = all_lists IsOwn (values_for_column period tree node) (columns_below columns) (λ i d lt.
          All-map IsOwn (node_value period tree node (get_or (columns_below columns) i d)) kinds (λ k e less. refl))

  -- each column's period has four bytes
  small_period : (column : ℕ) → IsWord (period column)
  small_period column = small_of_column c.events s.profile.events s.periods column

  pub record IsValue (v : NodeValue) : Type 0 where
    pub node : v.node < length ns
    pub column : v.column < columns
    pub some : 0 < v.value
    pub own : IsOwn v

  pub are_own : All IsValue values
  unfolding values_of
  are_own i d lt =
      let are = are_values period tree in
      record { node = are.nodes i d lt; column = are.columns i d lt; some = are.some i d lt; own = own_values i d lt }

  few_samples : length (paths_in tree) ≤ most_samples
  few_samples = (let long = ap length paths_are in let samples = s.profile.samples in omega (arith, long, samples))

  pub value_small : (v : NodeValue) → IsValue v → v.value < 2 ^ 64
  unfolding count_below
  value_small v is =
      let most = few_samples in
      let some = count_by-le-length (λ (p : ColumnPath). p.column == v.column && rest_passes (counts_for v.kind) (after_prefix (node_path ns v.node) p.path)) (paths_in tree) in
      let product = small_product (period v.column) (count_below (counts_for v.kind) (paths_in tree) v.column (node_path ns v.node)) (small_period v.column) (omega (arith, some, most)) in
      let own = is.own in
      omega (arith, product, own)

  -- a node that has an exclusive value is a statement
  exclusive_ends : (v : NodeValue) → IsValue v → v.kind ≡ Exclusive → (is_statement (node_at ns v.node).scope ≡ true) × (v.value % period v.column ≡ 0)
  unfolding count_below
  exclusive_ends v is kind =
      let n : Path = node_path ns v.node in
      let test : ColumnPath → Bool = λ p. p.column == v.column && rest_passes ends_here (after_prefix n p.path) in
      let count : ℕ = count_below ends_here (paths_in tree) v.column n in
      let amount : v.value ≡ period v.column * count = is.own ∙ ap (λ (k : Kind). value (period v.column) (paths_in tree) v.column n k) kind in
      let some = is.some in (
        elim (list_any test (paths_in tree)) as (λ b. list_any test (paths_in tree) ≡ b → is_statement (node_at ns v.node).scope ≡ true) [
          | true ↦ λ e.
              let a = Any-from_list_any test (paths_in tree) e in
              let there : Contains ps a.1 = subst (λ (l : List ColumnPath). Contains l a.1) paths_are (a.0, a.2, a.3) in
              ends_at_statement c s v.node is.node a.1 there (path_is n a.1.path (and_parts (a.1.column == v.column) (rest_passes ends_here (after_prefix n a.1.path)) a.4).1)
          | false ↦ λ e. absurd (nothing (period v.column) v.value count amount (count_none test (paths_in tree) e) some)
        ] refl,
        ap (λ (k : ℕ). k % period v.column) amount ∙ mul-mod_right (period v.column) count,
      )
    where
      nothing : (each amount count : ℕ) → amount ≡ each * count → count ≡ 0 → 0 < amount → ⊥
      nothing each amount count is none some = (let zero_is : each * count ≡ each * 0 = ap (λ (k : ℕ). each * k) none in absurd (omega (arith, is, zero_is, some)))

      path_is : (n m : Path) → rest_passes ends_here (after_prefix n m) ≡ true → m ≡ n
      path_is n m e =
          let p = passes_is ends_here (after_prefix n m) e in
          after_is n m p.0 p.1 ∙ ap (λ (r : Path). n ++ r) (none_left p.0 p.2) ∙ append-nil n
        where
          none_left : (r : Path) → ends_here r ≡ true → r ≡ []
          none_left [] e = refl
          none_left (s ∷ r) e = absurd (true≢false (sym e))

  -- ---- the entries

  abbrev column_raws : ℕ → List RawEntry
  column_raws column = map (λ v. raw_entry column (in_profile v)) (filter (λ v. v.column == column) values)

  entries_are : entries ≡ flat_map column_raws (columns_below columns)
  entries_are =
      ap (λ (lists : List (List ProfileEntry)). flat_map raw_list (enumerate_from 0 lists)) profiles_by_value
      ∙ ap (flat_map raw_list) (enumerated (column_entries values) 0 columns)
      ∙ flat_map_of_map raw_list (λ h. (h, column_entries values h)) (range_with_len 0 columns)
      ∙ (λ i. flat_map (λ h. map_of_map (raw_entry h) in_profile (filter (λ (v : NodeValue). v.column == h) values) i) (range_with_len 0 columns))

  pub record IsGood (e : RawEntry) : Type 0 where
    pub node : e.node < length ns
    pub column : e.column < columns
    pub kind : e.kind < 3
    pub some : 0 < e.value
    pub exclusive : is_exclusive_entry e ≡ true → (is_statement (node_at ns e.node).scope ≡ true) × (e.value % period e.column ≡ 0)

  abbrev mine : ℕ → List NodeValue
  mine column = filter (λ (v : NodeValue). v.column == column) values

  own_good : (column : ℕ) → All IsGood (column_raws column)
  own_good column = All-map IsGood (λ v. raw_entry column (in_profile v)) (mine column) (λ i d lt.
      let v : NodeValue = get_or (mine column) i d in
      let is : IsValue v = All-filter (λ (v : NodeValue). v.column == column) IsValue values are_own i d lt in
      let at : v.column ≡ column = eqb-true v.column column (filter_passes (λ (v : NodeValue). v.column == column) values i d lt) in
      record {
        node = is.node;
        column = subst (λ (h : ℕ). h < columns) at is.column;
        kind = kind_few v.kind;
        some = is.some;
        exclusive = λ e. subst (λ (h : ℕ). (is_statement (node_at ns v.node).scope ≡ true) × (v.value % period h ≡ 0)) at (exclusive_ends v is (exclusive_is v.kind (eqb-true (kind_rank v.kind) 0 e)));
      })

  pub good : All IsGood entries
  good = subst (All IsGood) (sym entries_are) (all_lists IsGood column_raws (columns_below columns) (λ i d lt. own_good (get_or (columns_below columns) i d)))

  abbrev Up : RawEntry → RawEntry → Type 0
  Up e f = entries_ascend e f ≡ true

  abbrev none : NodeValue
  none = record { node = 0; column = 0; kind = Exclusive; value = 0 }

  own_up : (column : ℕ) → AllPairs Up (column_raws column)
  own_up column = pairs_map Up (λ v. raw_entry column (in_profile v)) (mine column) none (λ i j d less lt.
      let v : NodeValue = get_or (mine column) i d in
      let w : NodeValue = get_or (mine column) j d in
      let up : value_order v w ≡ Less = AllPairs-filter (λ a b. value_order a b ≡ Less) (λ (v : NodeValue). v.column == column) values (are_values period tree).ascend i j d less lt in
      let same_v : v.column ≡ column = eqb-true v.column column (filter_passes (λ (v : NodeValue). v.column == column) values i d (omega arith)) in
      let same_w : w.column ≡ column = eqb-true w.column column (filter_passes (λ (v : NodeValue). v.column == column) values j d lt) in
      elim (last_two_up v.node v.column (kind_rank v.kind) w.node w.column (kind_rank w.kind) up (same_v ∙ sym same_w)) [
        | inl first ↦ second_up column v.node (kind_rank v.kind) column w.node (kind_rank w.kind) refl first
        | inr (same, last) ↦
            third_up column v.node (kind_rank v.kind) column w.node (kind_rank w.kind) refl same
            (omega (arith, last))
      ])

  pub ascend : AllPairs Up entries
  ascend =
      subst (AllPairs Up) (sym entries_are)
      (ranged_pairs Up (λ e. e.column) column_raws (λ e f lt. first_up e.column e.node e.kind f.column f.node f.kind lt)
      (λ column. All-map (λ (e : RawEntry). e.column ≡ column) (λ v. raw_entry column (in_profile v)) (mine column) (λ i d lt. refl)) own_up 0 columns)

  -- ---- the sixth rule, first

  pub none_breaks : (i : ℕ) → i < length entries → entry_breaks period columns ns entries i ≡ false
  none_breaks i lt =
      let e : RawEntry = entry_at entries i in
      let g : IsGood e = All-get_or IsGood entries i _ lt good in
      let excl : (not (is_exclusive_entry e) || (is_statement (node_at ns e.node).scope && e.value % period e.column == 0)) ≡ true = elim (is_exclusive_entry e) as (λ b. is_exclusive_entry e ≡ b → (not b || (is_statement (node_at ns e.node).scope && e.value % period e.column == 0)) ≡ true) [
        | true ↦ λ is. (let p = g.exclusive is in and_from (is_statement (node_at ns e.node).scope) (e.value % period e.column == 0) p.0 (eq-eqb (e.value % period e.column) 0 p.1))
        | false ↦ λ is. refl
      ] refl in
      let some : not (e.value == 0) ≡ true = (let more = g.some in ap not (ne_eqb e.value 0 (λ z. absurd (omega (arith, z, more))))) in
      let value_is : is_value period columns ns e ≡ true =
      and_from _ _ (lt-ltb e.node (length ns) g.node) (and_from _ _ (lt-ltb e.column columns g.column) (and_from _ _ (lt-ltb e.kind 3 g.kind) (and_from _ _ some excl))) in
      let next : (i == 0 || entries_ascend (entry_at entries (i - 1)) e) ≡ true = is_next i lt in
      let room : nat_le (sum_by (entry_samples period) (take (i + 1) entries)) most_samples ≡ true = le-leb (sum_by (entry_samples period) (take (i + 1) entries)) most_samples (enough i) in
      ap not (and_from _ _ value_is (and_from _ _ next room))
    where
      is_next : (i : ℕ) → i < length entries → (i == 0 || entries_ascend (entry_at entries (i - 1)) (entry_at entries i)) ≡ true
      is_next zero lt = refl
      is_next (suc i) lt =
          let k : suc i - 1 ≡ i = omega arith in
          or_right (suc i == 0) (entries_ascend (entry_at entries (suc i - 1)) (entry_at entries (suc i)))
          (ap (λ (j : ℕ). entries_ascend (entry_at entries j) (entry_at entries (suc i))) k ∙ ascend i (suc i) _ (omega arith) lt)

      enough : (i : ℕ) → sum_by (entry_samples period) (take (i + 1) entries) ≤ most_samples
      enough i =
          let part = sum_by-take-le (entry_samples period) entries (i + 1) in
          let all = samples_are period entries in
          let many = paths_in_tree tree in
          let most = few_samples in
          omega (arith, part, all, many, most)
