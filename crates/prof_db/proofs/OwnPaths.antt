-- A tree of which each node lies on a counted path has the nodes of the paths that end in it.
use Rattle.std.proofs.Common.{◌≡◌, ℕ, zero, suc, ◌+◌, ◌<◌, ◌≤◌, true, false, cond, List, [], ◌∷◌, ◌++◌, length, get_or, replicate, All, Contains, refl, sym, ap, subst, ◌∙◌, arith, inl, inr, append-nil, append_assoc, length-append}
use Rattle.std.specs.Prelude.{◌≢◌}
use Rattle.std.specs.List.{flat_map}
use Rattle.std.proofs.lemmas.Bool.{cases_eq, ne_eqb}
use Rattle.std.proofs.lemmas.List.{get_or_default, get_or-map, length-replicate, same_lists}
use Rattle.std.proofs.lemmas.List.Elements.{All-nil, All-head, All-tail, All-append, All-replicate, All-contains, Contains-get_or, Contains-append_left, Contains-append_right}
use Rattle.scope_types.specs.CallPaths.{ColumnPath}
use Rattle.scope_types.specs.declared.scope.Scope.{Scope}
use Rattle.tree_types.specs.declared.content.Node.{Node}
use Rattle.tree_types.specs.declared.counted_tree.NodeCount.{NodeCount}
use Rattle.tree_types.specs.Database.{node_list}
use Rattle.tree_types.specs.Laws.{IsNonemptyPrefix}
use Rattle.tree_types.specs.Nodes.{nodes, no_parent, node_number, own_scope, parent_number, parent_path}
use Rattle.tree_types.specs.Paths.{Path}
use Rattle.tree_types.specs.PathsOf.{tree_paths}
use Rattle.tree_types.specs.Tree.{CountedTree, IsPreorder, IsTree, counted_path, node_at, node_path, paths_in}
use Rattle.tree_types.proofs.NodeLaws.{node_is_prefix, only_nodes, prefix_is_node}
use Rattle.tree_types.proofs.Parents.{number_is}
use Rattle.tree_types.proofs.PathSteps.{as_many_paths}
use Rattle.tree_types.proofs.TreeLaws.{nodes_listed}
use Rattle.tree_types.proofs.TreePaths.{own_scope_last, parent_path_front}
use Rattle.tree_types.proofs.TreeValues.{inner_is, parent_before, root_is, shorter_prefix, some_path}
use Rattle.prof_db.specs.NodeRules.{is_statement}

-- ---- elements of lists that are put together

in_lists : {X Y : Type 0} (f : X → List Y) (xs : List X) (x : X) (y : Y) (k : ℕ) → k < length xs → get_or xs k x ≡ x → Contains (f x) y → Contains (flat_map f xs) y
in_lists f [] x y k lt is has = absurd (omega arith)
in_lists {Y} f (z ∷ xs) x y zero lt is has = Contains-append_left (f z) (flat_map f xs) y (subst (λ w. Contains (f w) y) (sym is) has)
in_lists f (z ∷ xs) x y (suc k) lt is has = Contains-append_right (f z) (flat_map f xs) y (in_lists f xs x y k (omega arith) is has)

again : {X : Type 0} (n : ℕ) (x : X) → 0 < n → Contains (replicate n x) x
again zero x lt = absurd (omega arith)
again (suc n) x lt = (0, (let long = length-replicate (suc n) x in omega (arith, long)), refl)

-- ---- the paths that end in a tree

module _ (ns : List Node) where
  abbrev counted : List NodeCount → List ColumnPath
  counted cs = flat_map (λ c. replicate c.count (counted_path ns c)) cs

  each_counted : (P : ColumnPath → Type 0) (cs : List NodeCount) → All (λ c. P (counted_path ns c)) cs → All P (counted cs)
  each_counted P [] all = All-nil P
  each_counted P (c ∷ cs) all =
      All-append P (replicate c.count (counted_path ns c)) (counted cs)
      (All-replicate P c.count (counted_path ns c) (All-head (λ (c : NodeCount). P (counted_path ns c)) c cs all))
      (each_counted P cs (All-tail (λ (c : NodeCount). P (counted_path ns c)) c cs all))

module _ (t : CountedTree) where
  -- what holds of each count's path holds of each path
  pub paths_all : (P : ColumnPath → Type 0) → All (λ c. P (counted_path t.nodes c)) t.counts → All P (paths_in t)
  unfolding paths_in
  paths_all P all = each_counted t.nodes P t.counts all

  path_there : (c : NodeCount) → Contains t.counts c → 0 < c.count → Contains (paths_in t) (counted_path t.nodes c)
  unfolding paths_in
  path_there c there some = in_lists (λ c. replicate c.count (counted_path t.nodes c)) t.counts c (counted_path t.nodes c) there.0 there.1 there.2 (again c.count (counted_path t.nodes c) some)

-- ---- the paths of nodes in preorder

module _ (ns : List Node) (few : length ns < no_parent) (preorder : IsPreorder ns) where
  abbrev bare : CountedTree
  bare = record { columns = 0; nodes = ns; counts = [] }

  pub bare_tree : IsTree bare
  bare_tree = record {
    few = few;
    preorder = preorder;
    nodes = λ i d lt. absurd (omega arith);
    columns = λ i d lt. absurd (omega arith);
    some = λ i d lt. absurd (omega arith);
    ascend = λ i j d below lt. absurd (omega arith);
  }

  abbrev parent : ℕ → ℕ
  parent i = (node_at ns i).parent

  abbrev scope : ℕ → Scope
  scope i = (node_at ns i).scope

  abbrev path : ℕ → Path
  path i = node_path ns i

  pub rooted : (i : ℕ) → i < length ns → parent i ≡ no_parent → path i ≡ scope i ∷ []
  rooted i lt root = root_is bare bare_tree i lt root

  pub inside : (i : ℕ) → i < length ns → parent i ≢ no_parent → path i ≡ path (parent i) ++ scope i ∷ []
  inside i lt inner = inner_is bare bare_tree i lt inner

  before : (i : ℕ) → i < length ns → parent i ≢ no_parent → parent i < i
  before i lt inner = parent_before bare bare_tree i lt inner

  -- a node's path has a scope
  pub some_scope : (i : ℕ) → i < length ns → 0 < length (path i)
  some_scope i lt = some (path i) refl
    where
      some : (p : Path) → path i ≡ p → 0 < length (path i)
      some [] is = absurd (some_path bare bare_tree i lt is)
      some (s ∷ p) is = subst (λ (q : Path). 0 < length q) (sym is) (omega arith)

  pub own_is : (i : ℕ) → i < length ns → own_scope (path i) ≡ scope i
  own_is i lt = elim (cases_eq (parent i) no_parent) [
    | inl root ↦ ap own_scope (rooted i lt root)
    | inr inner ↦ ap own_scope (inside i lt inner) ∙ own_scope_last (path (parent i)) (scope i)
  ]

  here : (i : ℕ) → i < length ns → Contains (tree_paths ns) (path i)
  here i lt = Contains-get_or (tree_paths ns) i [] (let long = as_many_paths ns in omega (arith, long, lt))

  -- each nonempty prefix of a node's path is a node's path
  prefix_here : (fuel i : ℕ) → i < fuel → i < length ns → (m : Path) → IsNonemptyPrefix m (path i) → Contains (tree_paths ns) m
  prefix_here zero i below lt m prefix = absurd (omega arith)
  prefix_here (suc fuel) i below lt m prefix = elim (cases_eq (parent i) no_parent) [
    | inl root ↦ by_last [] (rooted i lt root) (λ r e. absurd (no_rest m r prefix.some e))
    | inr inner ↦
        let less = before i lt inner in
        by_last (path (parent i)) (inside i lt inner) (λ r e. prefix_here fuel (parent i) (omega arith) (omega arith) m (record { some = prefix.some; rest = r; parts = e }))
  ]
    where
      no_rest : (m r : Path) → 0 < length m → [] ≡ m ++ r → ⊥
      no_rest [] r some e = absurd (omega arith)
      no_rest (s ∷ m) r some e = absurd cc

      by_last : (q : Path) → path i ≡ q ++ scope i ∷ [] → ((r : Path) → q ≡ m ++ r → Contains (tree_paths ns) m) → Contains (tree_paths ns) m
      by_last q is shorter = elim (shorter_prefix q (scope i) m prefix.rest (sym is ∙ prefix.parts)) [
        | inl whole ↦ subst (λ (n : Path). Contains (tree_paths ns) n) (sym (whole ∙ sym is)) (here i lt)
        | inr part ↦ shorter part.0 part.1
      ]

  -- ---- nodes of which each lies on a counted path

  module _ (columns : ℕ) (counts : List NodeCount) (counted_here : All (λ c. c.node < length ns) counts)
      (sampled : (i : ℕ) → i < length ns → is_statement (scope i) ≡ true → (c : NodeCount) × Contains counts c × (c.node ≡ i) × (0 < c.count))
      (child : (i : ℕ) → i < length ns → is_statement (scope i) ≡ false → (j : ℕ) × (j < length ns) × (parent j ≡ i)) where
    abbrev tree : CountedTree
    tree = record { columns = columns; nodes = ns; counts = counts }

    abbrev Below : ℕ → Type 0
    Below i = (p : ColumnPath) × Contains (paths_in tree) p × IsNonemptyPrefix (path i) p.path

    ends_here : (i : ℕ) → i < length ns → (c : NodeCount) × Contains counts c × (c.node ≡ i) × (0 < c.count) → Below i
    ends_here i lt (c, there, at, some) = (
      counted_path ns c,
      path_there tree c there some,
      record { some = some_scope i lt; rest = []; parts = ap (λ (k : ℕ). path k) at ∙ sym (append-nil (path i)) },
    )

    through : (i j : ℕ) → i < length ns → j < length ns → parent j ≡ i → Below j → Below i
    through i j lt within is (p, there, prefix) =
        let inner : parent j ≢ no_parent = λ root. absurd (omega (arith, root, is, few, lt)) in
        let longer : path j ≡ path i ++ scope j ∷ [] = inside j within inner ∙ ap (λ (k : ℕ). path k ++ scope j ∷ []) is in (
          p,
          there,
          record {
            some = some_scope i lt;
            rest = scope j ∷ prefix.rest;
            parts = prefix.parts ∙ ap (λ (q : Path). q ++ prefix.rest) longer ∙ append_assoc (path i) (scope j ∷ []) prefix.rest;
          },
        )

    child_behind : (i j : ℕ) → i < length ns → j < length ns → parent j ≡ i → i < j
    child_behind i j lt within is =
        let inner : parent j ≢ no_parent = λ root. absurd (omega (arith, root, is, few, lt)) in
        let less = before j within inner in
        omega (arith, less, is)

    -- a path that ends at a node or below it
    below : (fuel i : ℕ) → length ns ≤ i + fuel → i < length ns → Below i
    below zero i far lt = absurd (omega arith)
    below (suc fuel) i far lt =
        elim (is_statement (scope i)) as (λ b. is_statement (scope i) ≡ b → Below i) [
          | true ↦ λ e. ends_here i lt (sampled i lt e)
          | false ↦ λ e.
              let c = child i lt e in
              let less = child_behind i c.0 lt c.1 c.2 in
              through i c.0 lt c.1 c.2 (below fuel c.0 (omega (arith, far, less)) c.1)
        ] refl

    abbrev HasPrefixes : ColumnPath → Type 0
    HasPrefixes p = (m : Path) → IsNonemptyPrefix m p.path → Contains (tree_paths ns) m

    prefixes_here : All HasPrefixes (paths_in tree)
    prefixes_here = paths_all tree HasPrefixes (λ k d lt m prefix. prefix_here (suc (get_or counts k d).node) (get_or counts k d).node (omega arith) (counted_here k d lt) m prefix)

    -- the nodes are those of the paths
    pub nodes_own : tree_paths ns ≡ nodes (paths_in tree)
    nodes_own = only_nodes (paths_in tree) (tree_paths ns) preorder.ascend (λ n. (lies_on n, is_there n))
      where
        lies_on : (n : Path) → Contains (tree_paths ns) n → Contains (nodes (paths_in tree)) n
        lies_on n there =
            let long = as_many_paths ns in
            let k : ℕ = there.0 in
            let lt : k < length ns = (let within = there.1 in omega (arith, within, long)) in
            let is : path k ≡ n = get_or_default (tree_paths ns) k [] n there.1 ∙ there.2 in
            let p = below (length ns) k (omega arith) lt in
            subst (λ (m : Path). Contains (nodes (paths_in tree)) m) is (prefix_is_node (paths_in tree) p.0 (path k) p.1 p.2)

        is_there : (n : Path) → Contains (nodes (paths_in tree)) n → Contains (tree_paths ns) n
        is_there n there =
            let p = node_is_prefix (paths_in tree) n there in
            All-contains HasPrefixes (paths_in tree) p.0 prefixes_here p.1 n p.2

  -- ---- nodes that are those of paths are their list

  abbrev listed : List Path → Path → Node
  listed all n = record { parent = parent_number all n; scope = own_scope n }

  module _ (ps : List ColumnPath) (same : tree_paths ns ≡ nodes ps) where
    as_many : length ns ≡ length (nodes ps)
    as_many = sym (as_many_paths ns) ∙ ap (λ (xs : List Path). length xs) same

    number_of : (j : ℕ) → j < length ns → node_number (nodes ps) (path j) ≡ j
    number_of j lt =
        let long = as_many in
        number_is ps j (path j) (omega (arith, lt, long))
        (get_or_default (nodes ps) j (path j) [] (omega (arith, lt, long)) ∙ sym (ap (λ (xs : List Path). get_or xs j []) same))

    listed_root : (i : ℕ) → i < length ns → parent i ≡ no_parent → listed (nodes ps) (path i) ≡ node_at ns i
    listed_root i lt root = ap (listed (nodes ps)) (rooted i lt root) ∙ (λ k. record { parent = sym root k; scope = scope i })

    listed_inner : (i : ℕ) → i < length ns → parent i ≢ no_parent → listed (nodes ps) (path i) ≡ node_at ns i
    listed_inner i lt inner =
        let f : Path = path (parent i) in
        let less : parent i < i = before i lt inner in
        let some : 0 < length f = some_scope (parent i) (omega (arith, less, lt)) in
        let long : length (f ++ scope i ∷ []) ≡ length f + 1 = length-append f (scope i ∷ []) in
        let apart : length (f ++ scope i ∷ []) ≢ 1 = λ e. absurd (omega (arith, e, some, long)) in
        let number : parent_number (nodes ps) (path i) ≡ parent i =
        ap (parent_number (nodes ps)) (inside i lt inner)
        ∙ ap (λ b. cond b no_parent (node_number (nodes ps) (parent_path (f ++ scope i ∷ [])))) (ne_eqb (length (f ++ scope i ∷ [])) 1 apart)
        ∙ ap (node_number (nodes ps)) (parent_path_front f (scope i)) ∙ number_of (parent i) (omega (arith, less, lt)) in
        λ k. record { parent = number k; scope = own_is i lt k }

    listed_is : (i : ℕ) → i < length ns → listed (nodes ps) (path i) ≡ node_at ns i
    listed_is i lt = elim (cases_eq (parent i) no_parent) [
      | inl root ↦ listed_root i lt root
      | inr inner ↦ listed_inner i lt inner
    ]

    pub listed_own : ns ≡ node_list ps
    listed_own =
        let long = as_many in
        same_lists ns (node_list ps) (as_many ∙ sym (nodes_listed ps)) (λ i d lt.
        get_or_default ns i d (node_at ns i) lt ∙ get_or_default ns i (node_at ns i) _ lt ∙ sym (listed_is i lt)
        ∙ ap (λ (xs : List Path). listed (nodes ps) (get_or xs i [])) same
        ∙ sym (get_or-map (listed (nodes ps)) (nodes ps) i [] d (omega (arith, lt, long))))
