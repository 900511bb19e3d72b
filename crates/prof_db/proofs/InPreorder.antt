-- Nodes that are in preorder pass the fifth rule's order.
use Rattle.std.proofs.Common.{◌≡◌, ℕ, zero, suc, ◌<◌, ◌==◌, inl, inr, Bool, true, cond, List, [], ◌∷◌, ◌++◌, length, Less, Equal, Greater, Ordering, refl, sym, ap, ◌∙◌, arith}
use Rattle.std.specs.Prelude.{◌≢◌}
use Rattle.std.specs.List.{list_any}
use Rattle.std.specs.Ordering.{is_lt, ordering_then}
use Rattle.std.proofs.lemmas.Bool.{and_from, cases_eq, eq-eqb, lt-ltb, or_left, or_right}
use Rattle.std.proofs.lemmas.Cmp.{tied_itself}
use Rattle.scope_types.specs.declared.scope.Scope.{Scope}
use Rattle.scope_types.specs.Order.{scope_order, path_order}
use Rattle.scope_types.proofs.Orders.{scope_order_total}
use Rattle.tree_types.specs.declared.content.Node.{Node}
use Rattle.tree_types.specs.Nodes.{no_parent}
use Rattle.tree_types.specs.Paths.{Path}
use Rattle.tree_types.specs.Tree.{CountedTree, IsPreorder, IsTree, node_at, node_path}
use Rattle.tree_types.proofs.Enclosed.{enclosed}
use Rattle.tree_types.proofs.PathSteps.{as_many_paths}
use Rattle.tree_types.proofs.TreeValues.{inner_is, parent_before, root_is}
use Rattle.prof_db.specs.NodeRules.{in_preorder, line_up, siblings_ascend}
use Rattle.prof_db.proofs.OwnPaths.{bare_tree}

less_first : (o : Ordering) → ordering_then o Equal ≡ Less → o ≡ Less
less_first Less e = refl
less_first Equal e = absurd cc
less_first Greater e = absurd cc

-- two paths that part at their last scopes
part_last : (q : Path) (s t : Scope) → path_order (q ++ s ∷ []) (q ++ t ∷ []) ≡ Less → scope_order s t ≡ Less
part_last [] s t e = less_first (scope_order s t) e
part_last (u ∷ q) s t e =
    part_last q s t (sym (ap (λ o. ordering_then o (path_order (q ++ s ∷ []) (q ++ t ∷ []))) (tied_itself scope_order_total u)) ∙ e)

module _ (ns : List Node) (few : length ns < no_parent) (preorder : IsPreorder ns) where
  abbrev t : CountedTree
  t = record { columns = 0; nodes = ns; counts = [] }

  tree : IsTree t
  tree = bare_tree ns few preorder

  abbrev parent : ℕ → ℕ
  parent i = (node_at ns i).parent

  abbrev scope : ℕ → Scope
  scope i = (node_at ns i).scope

  abbrev path : ℕ → Path
  path i = node_path ns i

  up : (i j : ℕ) → i < j → j < length ns → path_order (path i) (path j) ≡ Less
  up i j below lt = (let long = as_many_paths ns in preorder.ascend i j [] below (omega (arith, long, lt)))

  -- a node before one of the same parent has a smaller scope
  smaller : (x j : ℕ) → x < j → j < length ns → parent x ≡ parent j → scope_order (scope x) (scope j) ≡ Less
  smaller x j below lt same = elim (cases_eq (parent j) no_parent) [
    | inl root ↦
        part_last [] (scope x) (scope j)
        (sym (ap (λ (p : Path). path_order p (path j)) (root_is t tree x (omega arith) (same ∙ root)) ∙ ap (path_order (scope x ∷ [])) (root_is t tree j lt root)) ∙ up x j below lt)
    | inr inner ↦
        let own : path x ≡ path (parent j) ++ scope x ∷ [] = inner_is t tree x (omega arith) (λ root. inner (sym same ∙ root)) ∙ ap (λ (k : ℕ). path k ++ scope x ∷ []) same in
        part_last (path (parent j)) (scope x) (scope j)
        (sym (ap (λ (p : Path). path_order p (path j)) own ∙ ap (path_order (path (parent j) ++ scope x ∷ [])) (inner_is t tree j lt inner)) ∙ up x j below lt)
  ]

  module _ (j : ℕ) (lt : j < length ns) where
    abbrev behind : ℕ → Bool
    behind k = siblings_ascend (node_at ns k) (node_at ns j)

    found : (x : ℕ) → x < j → parent x ≡ parent j → behind x ≡ true
    found x below same = and_from (parent x == parent j) (is_lt (scope_order (scope x) (scope j))) (eq-eqb (parent x) (parent j) same) (ap is_lt (smaller x j below lt same))

    walk : (fuel x : ℕ) → x < fuel → x < j → (parent j ≢ no_parent → parent j < x) → list_any behind (line_up ns fuel x) ≡ true
    walk zero x low below within = absurd (omega arith)
    walk (suc fuel) x low below within =
        ap (λ b. list_any behind (cond b (x ∷ line_up ns fuel (parent x)) [])) (lt-ltb x (length ns) (omega arith))
        ∙ elim (cases_eq (parent x) (parent j)) [
          | inl same ↦ or_left (behind x) (list_any behind (line_up ns fuel (parent x))) (found x below same)
          | inr apart ↦
              let inner : parent x ≢ no_parent = above x below within apart in
              let less : parent x < x = parent_before t tree x (omega arith) inner in
              or_right (behind x) (list_any behind (line_up ns fuel (parent x)))
              (walk fuel (parent x) (omega (arith, less, low)) (omega (arith, less, below)) (λ has. (let first = (enclosed t tree (parent j) x j (within has) below lt refl).1 in omega (arith, first, apart))))
        ]
      where
        above : (x : ℕ) → x < j → (parent j ≢ no_parent → parent j < x) → parent x ≢ parent j → parent x ≢ no_parent
        above x below within apart root = elim (cases_eq (parent j) no_parent) [
          | inl none ↦ apart (root ∙ sym none)
          | inr has ↦ (enclosed t tree (parent j) x j (within has) below lt refl).0 root
        ]

  first_root : 0 < length ns → parent 0 ≡ no_parent
  first_root lt = elim (cases_eq (parent 0) no_parent) [
    | inl root ↦ root
    | inr inner ↦ (let less = parent_before t tree 0 lt inner in absurd (omega (arith, less)))
  ]

  pub in_order : (i : ℕ) → i < length ns → in_preorder ns i ≡ true
  in_order zero lt = eq-eqb (parent 0) no_parent (first_root lt)
  in_order (suc i) lt = elim (cases_eq (parent (suc i)) i) [
    | inl first ↦ or_left (parent (suc i) == i) (list_any (behind (suc i) lt) (line_up ns (suc i) i)) (eq-eqb (parent (suc i)) i first)
    | inr apart ↦
        or_right (parent (suc i) == i) (list_any (behind (suc i) lt) (line_up ns (suc i) i))
        (walk (suc i) lt (suc i) i (omega arith) (omega arith) (λ has. (let less = parent_before t tree (suc i) lt has in omega (arith, less, apart))))
  ]
