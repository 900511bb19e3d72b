-- The counts of a tree's nodes, each from its own and its children's.
use Rattle.std.proofs.Common.{◌≡◌, ℕ, zero, suc, ◌+◌, ◌-◌, ◌<◌, ◌≤◌, ◌==◌, ◌&&◌, Bool, true, false, not, cond, List, [], ◌∷◌, ◌++◌, length, map, filter, replicate, sum_by, All, refl, sym, ap, ◌∙◌, arith, inl, inr}
use Rattle.std.specs.Prelude.{◌≢◌, ◌⊎◌}
use Rattle.std.specs.List.{flat_map, range_with_len, AllByRecursion}
use Rattle.std.specs.List.Sorted.{IsStrictlySortedBy}
use Rattle.std.proofs.lemmas.Bool.{and_parts, and_from, cases_eq, eq-eqb, ne_eqb, eqb-true}
use Rattle.std.proofs.lemmas.List.{same_lists, get_or_default}
use Rattle.std.proofs.lemmas.List.Elements.{All-nil, All-append, All-head, All-tail, All-replicate, recursion_from_All}
use Rattle.std.proofs.lemmas.List.FromFn.{length-map-range_with_len, get_or-map-range_with_len}
use Rattle.std.proofs.lemmas.List.Sums.{sum_by-cons, count_by-le-length}
use Rattle.prof_bytes.proofs.Tests.{and_true}
use Rattle.scope_types.specs.CallPaths.{ColumnPath}
use Rattle.scope_types.specs.declared.scope.Scope.{Scope}
use Rattle.scope_types.specs.Order.{path_order}
use Rattle.scope_types.proofs.Orders.{path_order_total, path_order_tells}
use Rattle.tree_types.specs.declared.counted_tree.NodeCount.{NodeCount}
use Rattle.tree_types.specs.Laws.{IsNonemptyPrefix}
use Rattle.tree_types.specs.Nodes.{no_parent, is_single, is_single_inner}
use Rattle.tree_types.specs.Paths.{Path, after_prefix, rest_passes, is_proc}
use Rattle.tree_types.specs.PathsOf.{tree_paths}
use Rattle.tree_types.specs.Tree.{CountedTree, IsTree, count_at, counts_in, node_at, node_path, nodes_behind, counted_path, paths_in}
use Rattle.tree_types.specs.Values.{anything, within_frame, count_below}
use Rattle.tree_types.proofs.NodeLaws.{sorted_from_pairs}
use Rattle.tree_types.proofs.PathSteps.{as_many_paths, root_path, inner_path}
use Rattle.tree_types.proofs.Prefixes.{after_again, after_is, passes_is}
use Rattle.tree_types.proofs.Sorting.{has, has-from_Contains, bool_same}
use Rattle.tree_types.proofs.Totals.{inclusive_splits, frame_splits}
use Rattle.tree_types.proofs.TreeLaws.{numbers_tell, counts_are_paths, paths_in_tree}
use Rattle.tree_types.proofs.ValueLaws.{Splits, single_from_child, count_splits_in, head_same, tail_same}

-- ---- sums over numbers

pub sum_same : (f g : ℕ → ℕ) (a n : ℕ) → ((j : ℕ) → a ≤ j → j < a + n → f j ≡ g j) → sum_by f (range_with_len a n) ≡ sum_by g (range_with_len a n)
sum_same f g a zero same = refl
sum_same f g a (suc n) same =
    let x = sum_by-cons f a (range_with_len (a + 1) n) in
    let y = sum_by-cons g a (range_with_len (a + 1) n) in
    let here = same a (omega arith) (omega arith) in
    let rest = sum_same f g (a + 1) n (λ j le lt. same j (omega arith) (omega arith)) in
    omega (arith, x, y, here, rest)

pub sum_past : (f : ℕ → ℕ) (a k n : ℕ) → ((j : ℕ) → a ≤ j → j < a + k → f j ≡ 0) → sum_by f (range_with_len a (k + n)) ≡ sum_by f (range_with_len (a + k) n)
sum_past f a zero n none =
    let same : 0 + n ≡ n = omega arith in
    let at : a ≡ a + 0 = omega arith in
    ap (λ (m : ℕ). sum_by f (range_with_len a m)) same ∙ ap (λ (b : ℕ). sum_by f (range_with_len b n)) at
sum_past f a (suc k) n none =
    let more : suc k + n ≡ suc (k + n) = omega arith in
    let x = sum_by-cons f a (range_with_len (a + 1) (k + n)) in
    let here = none a (omega arith) (omega arith) in
    let rest = sum_past f (a + 1) k n (λ j le lt. none j (omega arith) (omega arith)) in
    let at : a + 1 + k ≡ a + suc k = omega arith in
    ap (λ (m : ℕ). sum_by f (range_with_len a m)) more ∙ omega (arith, x, here) ∙ rest ∙ ap (λ (b : ℕ). sum_by f (range_with_len b n)) at

sum-filter-map : {X : Type 0} (q : X → Bool) (f : X → ℕ) (g : ℕ → X) (xs : List ℕ) → sum_by f (filter q (map g xs)) ≡ sum_by (λ j. cond (q (g j)) (f (g j)) 0) xs
sum-filter-map q f g [] = refl
sum-filter-map q f g (x ∷ xs) =
    let parts = sum_by-cons (λ j. cond (q (g j)) (f (g j)) 0) x xs in
    let rest = sum-filter-map q f g xs in
    elim (q (g x)) as (λ b. sum_by f (cond b (g x ∷ filter q (map g xs)) (filter q (map g xs))) ≡ cond b (f (g x)) 0 + sum_by (λ j. cond (q (g j)) (f (g j)) 0) xs) [
      | true ↦ (let first = sum_by-cons f (g x) (filter q (map g xs)) in omega (arith, first, rest))
      | false ↦ omega (arith, rest)
    ] ∙ sym parts

-- ---- paths with one scope more

some_last : (a : Path) (x : Scope) → a ++ x ∷ [] ≡ [] → ⊥
some_last [] x e = absurd cc
some_last (s ∷ a) x e = absurd cc

last_same : (a b : Path) (x y : Scope) → a ++ x ∷ [] ≡ b ++ y ∷ [] → (a ≡ b) × (x ≡ y)
last_same [] [] x y e = (refl, head_same x y [] [] e)
last_same [] (t ∷ b) x y e = absurd (some_last b y (sym (tail_same x t [] (b ++ y ∷ []) e)))
last_same (s ∷ a) [] x y e = absurd (some_last a x (tail_same s y (a ++ x ∷ []) [] e))
last_same (s ∷ a) (t ∷ b) x y e =
    let rest = last_same a b x y (tail_same s t (a ++ x ∷ []) (b ++ y ∷ []) e) in
    ((λ i. head_same s t (a ++ x ∷ []) (b ++ y ∷ []) e i ∷ rest.0 i), rest.1)

-- a prefix of what is longer by one is it, or a prefix of the rest
pub shorter_prefix : (q : Path) (s : Scope) (m r : Path) → q ++ s ∷ [] ≡ m ++ r → (m ≡ q ++ s ∷ []) ⊎ ((rest : Path) × (q ≡ m ++ rest))
shorter_prefix q s [] r e = inr (q, refl)
shorter_prefix [] s (t ∷ m) r e = inl (λ i. sym (head_same s t [] (m ++ r) e) i ∷ none m r (sym (tail_same s t [] (m ++ r) e)) i)
  where
    none : (m r : Path) → m ++ r ≡ [] → m ≡ []
    none [] r e = refl
    none (x ∷ m) r e = absurd cc
shorter_prefix (u ∷ q) s (t ∷ m) r e =
    let same = head_same u t (q ++ s ∷ []) (m ++ r) e in
    elim (shorter_prefix q s m r (tail_same u t (q ++ s ∷ []) (m ++ r) e)) [
      | inl whole ↦ inl (λ i. sym same i ∷ whole i)
      | inr part ↦ inr (part.0, λ i. same i ∷ part.1 i)
    ]

module _ (t : CountedTree) (tree : IsTree t) where
  abbrev paths : List Path
  paths = tree_paths t.nodes

  abbrev path : ℕ → Path
  path i = node_path t.nodes i

  abbrev parent : ℕ → ℕ
  parent j = (node_at t.nodes j).parent

  abbrev scope : ℕ → Scope
  scope j = (node_at t.nodes j).scope

  abbrev size : ℕ
  size = length t.nodes

  long : length paths ≡ size
  long = as_many_paths t.nodes

  sorted : IsStrictlySortedBy path_order paths
  sorted = sorted_from_pairs path_order paths tree.preorder.ascend

  pub root_is : (j : ℕ) → j < size → parent j ≡ no_parent → path j ≡ scope j ∷ []
  root_is j lt root = root_path t.nodes j _ lt root

  pub parent_before : (j : ℕ) → j < size → parent j ≢ no_parent → parent j < j
  parent_before j lt inner = tree.preorder.parents j _ lt inner

  pub inner_is : (j : ℕ) → j < size → parent j ≢ no_parent → path j ≡ path (parent j) ++ scope j ∷ []
  inner_is j lt inner = inner_path t.nodes j _ lt inner (parent_before j lt inner)

  -- ---- every prefix is a node

  here : (j : ℕ) → j < size → has path_order (path j) paths ≡ true
  here j lt = has-from_Contains path_order_total path_order_tells (path j) paths (j, (let l = long in omega (arith, l)), get_or_default paths j (path j) [] (let l = long in omega (arith, l)))

  prefix_here : (fuel j : ℕ) → j < fuel → j < size → (m : Path) → IsNonemptyPrefix m (path j) → has path_order m paths ≡ true
  prefix_here zero j below lt m prefix = absurd (omega arith)
  prefix_here (suc fuel) j below lt m prefix = elim (cases_eq (parent j) no_parent) [
    | inl root ↦ by_last [] (root_is j lt root) (λ r e. absurd (no_rest m r prefix.some e))
    | inr inner ↦
        let before = parent_before j lt inner in
        by_last (path (parent j)) (inner_is j lt inner) (λ r e. prefix_here fuel (parent j) (omega arith) (omega arith) m (record { some = prefix.some; rest = r; parts = e }))
  ]
    where
      no_rest : (m r : Path) → 0 < length m → [] ≡ m ++ r → ⊥
      no_rest [] r some e = absurd (omega arith)
      no_rest (s ∷ m) r some e = absurd cc

      by_last : (q : Path) → path j ≡ q ++ scope j ∷ [] → ((r : Path) → q ≡ m ++ r → has path_order m paths ≡ true) → has path_order m paths ≡ true
      by_last q is shorter = elim (shorter_prefix q (scope j) m prefix.rest (sym is ∙ prefix.parts)) [
        | inl whole ↦ ap (λ (n : Path). has path_order n paths) (whole ∙ sym is) ∙ here j lt
        | inr part ↦ shorter part.0 part.1
      ]

  abbrev HasPrefixes : ColumnPath → Type 0
  HasPrefixes p = (m : Path) → IsNonemptyPrefix m p.path → has path_order m paths ≡ true

  all_prefixes : (cs : List NodeCount) → All (λ c. c.node < size) cs → All HasPrefixes (flat_map (λ c. replicate c.count (counted_path t.nodes c)) cs)
  all_prefixes [] inside = All-nil HasPrefixes
  all_prefixes (c ∷ cs) inside =
      let own : c.node < size = All-head (λ (c : NodeCount). c.node < size) c cs inside in
      All-append HasPrefixes (replicate c.count (counted_path t.nodes c)) (flat_map (λ c. replicate c.count (counted_path t.nodes c)) cs)
      (All-replicate HasPrefixes c.count (counted_path t.nodes c) (λ m k. prefix_here (suc c.node) c.node (omega arith) own m k))
      (all_prefixes cs (All-tail (λ (c : NodeCount). c.node < size) c cs inside))

  prefixes_in : AllByRecursion HasPrefixes (paths_in t)
  unfolding paths_in
  prefixes_in = recursion_from_All HasPrefixes (paths_in t) (all_prefixes t.counts tree.nodes)

  -- ---- which nodes are children

  pub some_path : (i : ℕ) → i < size → (path i ≡ []) → ⊥
  some_path i lt e = elim (cases_eq (parent i) no_parent) [
    | inl root ↦ some_last [] (scope i) (sym (root_is i lt root) ∙ e)
    | inr inner ↦ some_last (path (parent i)) (scope i) (sym (inner_is i lt inner) ∙ e)
  ]

  module _ (child whole : Path → Bool) (test : Scope → Bool) (splits : Splits child whole test) where
    child_is : (i j : ℕ) → i < size → j < size → rest_passes child (after_prefix (path i) (path j)) ≡ ((parent j == i) && test (scope j))
    child_is i j lti ltj = bool_same (rest_passes child (after_prefix (path i) (path j))) ((parent j == i) && test (scope j)) to_number from_number
      where
        to_number : rest_passes child (after_prefix (path i) (path j)) ≡ true → ((parent j == i) && test (scope j)) ≡ true
        to_number e =
            let p = passes_is child (after_prefix (path i) (path j)) e in
            let one = single_from_child child whole test splits p.0 p.2 in
            let is : path j ≡ path i ++ one.0 ∷ [] = after_is (path i) (path j) p.0 p.1 ∙ ap (λ (r : Path). path i ++ r) one.1 in
            elim (cases_eq (parent j) no_parent) [
              | inl root ↦ absurd (some_path i lti (sym (last_same [] (path i) (scope j) one.0 (sym (root_is j ltj root) ∙ is)).0))
              | inr inner ↦
                  let same = last_same (path (parent j)) (path i) (scope j) one.0 (sym (inner_is j ltj inner) ∙ is) in
                  let before = parent_before j ltj inner in
                  let l = long in
                  let number : parent j ≡ i = numbers_tell paths tree.preorder.ascend (parent j) i (omega (arith, l, before)) (omega (arith, l)) same.0 in
                  and_from (parent j == i) (test (scope j)) (eq-eqb (parent j) i number) (ap test same.1 ∙ one.2)
            ]

        from_number : ((parent j == i) && test (scope j)) ≡ true → rest_passes child (after_prefix (path i) (path j)) ≡ true
        from_number e =
            let p = and_parts (parent j == i) (test (scope j)) e in
            let number : parent j ≡ i = eqb-true (parent j) i p.0 in
            let few = tree.few in
            let inner : parent j ≢ no_parent = λ root. absurd (omega (arith, number, few, root)) in
            let is : path j ≡ path i ++ scope j ∷ [] = inner_is j ltj inner ∙ ap (λ (k : ℕ). path k ++ scope j ∷ []) number in
            ap (λ (q : Path). rest_passes child (after_prefix (path i) q)) is ∙ ap (rest_passes child) (after_again (path i) (scope j ∷ [])) ∙ splits.single (scope j) ∙ p.1

    -- what a later node adds to its parent
    abbrev pub added : ℕ → ℕ → ℕ → ℕ
    added column i j = cond ((parent j == i) && test (scope j)) (count_below whole (paths_in t) column (path j)) 0

    all_by_number : paths ≡ map path (range_with_len 0 size)
    all_by_number = same_lists paths (map path (range_with_len 0 size)) (long ∙ sym (length-map-range_with_len path 0 size))
        (λ k d lt.
        let l = long in
        get_or_default paths k d [] lt ∙ sym (get_or-map-range_with_len path 0 size k k d (omega (arith, lt, l)) (omega arith)))

    not_added : (column i j : ℕ) → i < size → j ≤ i → added column i j ≡ 0
    not_added column i j lt le =
        let no : (parent j == i) ≡ false = ne_eqb (parent j) i (λ e. elim (cases_eq (parent j) no_parent) [
          | inl root ↦ (let few = tree.few in absurd (omega (arith, few, root, e)))
          | inr inner ↦ (let before = parent_before j (omega arith) inner in absurd (omega (arith, before, e)))
        ]) in
        ap (λ b. cond (b && test (scope j)) (count_below whole (paths_in t) column (path j)) 0) no

    -- a node's count is its own and what the later nodes add to it
    pub counts_from_children : (column i : ℕ) → i < size
        → count_below whole (paths_in t) column (path i) ≡ count_at t.counts i column + sum_by (added column i) (range_with_len (i + 1) (size - (i + 1)))
    counts_from_children column i lt =
        let f : Path → ℕ = λ m. count_below whole (paths_in t) column m in
        let q : Path → Bool = λ m. rest_passes child (after_prefix (path i) m) in
        let all = count_splits_in child whole test splits paths sorted (paths_in t) column (path i) prefixes_in in
        let own = counts_are_paths t i column tree lt in
        let by_number : sum_by f (filter q paths) ≡ sum_by (λ j. cond (q (path j)) (f (path j)) 0) (range_with_len 0 size) =
        ap (λ (ns : List Path). sum_by f (filter q ns)) all_by_number ∙ sum-filter-map q f path (range_with_len 0 size) in
        let by_parent : sum_by (λ j. cond (q (path j)) (f (path j)) 0) (range_with_len 0 size) ≡ sum_by (added column i) (range_with_len 0 size) =
        sum_same (λ j. cond (q (path j)) (f (path j)) 0) (added column i) 0 size (λ j le below. ap (λ b. cond b (f (path j)) 0) (child_is i j lt (omega arith))) in
        let parts : size ≡ (i + 1) + (size - (i + 1)) = omega arith in
        let later : sum_by (added column i) (range_with_len 0 size) ≡ sum_by (added column i) (range_with_len (0 + (i + 1)) (size - (i + 1))) =
        ap (λ (n : ℕ). sum_by (added column i) (range_with_len 0 n)) parts ∙ sum_past (added column i) 0 (i + 1) (size - (i + 1)) (λ j le below. not_added column i j lt (omega arith)) in
        let at : 0 + (i + 1) ≡ i + 1 = omega arith in
        let start = ap (λ (n : ℕ). sum_by (added column i) (range_with_len n (size - (i + 1)))) at in
        omega (arith, all, own, by_number, by_parent, later, start)

  -- no count is above the number of all paths
  pub count_few : (whole : Path → Bool) (column i : ℕ) → count_below whole (paths_in t) column (path i) ≤ counts_in t.counts
  unfolding count_below
  count_few whole column i =
      let some = count_by-le-length (λ (p : ColumnPath). p.column == column && rest_passes whole (after_prefix (path i) p.path)) (paths_in t) in
      let all = paths_in_tree t in
      omega (arith, some, all)

abbrev any_scope : Scope → Bool
any_scope s = true

abbrev passing : CountedTree → ℕ → ℕ → ℕ
passing t column j = count_below anything (paths_in t) column (node_path t.nodes j)

pub inclusive_counts : (t : CountedTree) → IsTree t → (column i : ℕ) → i < length t.nodes
    → passing t column i ≡ count_at t.counts i column + sum_by (λ j. cond ((node_at t.nodes j).parent == i) (passing t column j) 0) (nodes_behind t.nodes i)
inclusive_counts t tree column i lt =
    counts_from_children t tree is_single anything any_scope inclusive_splits column i lt
    ∙ ap (λ (n : ℕ). count_at t.counts i column + n)
    (sum_same (λ j. cond (((node_at t.nodes j).parent == i) && true) (passing t column j) 0) (λ j. cond ((node_at t.nodes j).parent == i) (passing t column j) 0) (i + 1) (length t.nodes - (i + 1))
    (λ j le below. ap (λ b. cond b (passing t column j) 0) (and_true ((node_at t.nodes j).parent == i))))

pub frame_counts : (t : CountedTree) → IsTree t → (column i : ℕ) → i < length t.nodes
    → count_below within_frame (paths_in t) column (node_path t.nodes i)
    ≡ count_at t.counts i column
    + sum_by (λ j. cond (((node_at t.nodes j).parent == i) && not (is_proc (node_at t.nodes j).scope)) (count_below within_frame (paths_in t) column (node_path t.nodes j)) 0) (nodes_behind t.nodes i)
frame_counts t tree column i lt = counts_from_children t tree is_single_inner within_frame (λ s. not (is_proc s)) frame_splits column i lt

pub ruleset count_laws = (inclusive_counts, frame_counts, count_few)
