-- Nodes in preorder lie between an ancestor and its descendants.
use Rattle.std.proofs.Common.{◌≡◌, ℕ, ◌<◌, ◌≤◌, [], ◌∷◌, ◌++◌, length, Less, Equal, Greater, refl, sym, ap, ◌∙◌, arith, inl, inr, append-nil}
use Rattle.std.specs.Prelude.{◌≢◌}
use Rattle.std.specs.Ordering.{ordering_then, ordering_reverse}
use Rattle.std.proofs.lemmas.Bool.{cases_eq, cases_lt}
use Rattle.std.proofs.lemmas.Cmp.{tied_itself}
use Rattle.scope_types.specs.declared.scope.Scope.{Scope}
use Rattle.scope_types.specs.Order.{scope_order, path_order}
use Rattle.scope_types.proofs.Orders.{scope_order_total, scope_order_tells, path_order_total}
use Rattle.tree_types.specs.Nodes.{no_parent}
use Rattle.tree_types.specs.Paths.{Path}
use Rattle.tree_types.specs.Tree.{CountedTree, IsTree, node_at, node_path}
use Rattle.tree_types.proofs.PathSteps.{as_many_paths}
use Rattle.tree_types.proofs.Parents.{prefix_less, less_is_not_equal, less_is_not_greater}
use Rattle.tree_types.proofs.TreeLaws.{numbers_tell}
use Rattle.tree_types.proofs.TreeValues.{shorter_prefix, some_path, root_is, inner_is, parent_before}

-- what lies between a path and one that extends it extends the path too
pub between : (x y : Path) (s : Scope) → path_order x y ≡ Less → path_order y (x ++ s ∷ []) ≡ Less → (r : Path) × (y ≡ x ++ r)
between [] y s above below = (y, refl)
between (u ∷ x) [] s above below = absurd (no above)
  where
    no : Greater ≡ Less → ⊥
    no e = absurd cc
between (u ∷ x) (v ∷ y) s above below =
    elim (scope_order u v) as (λ o. scope_order u v ≡ o → ordering_then o (path_order x y) ≡ Less → (r : Path) × ((v ∷ y) ≡ (u ∷ x) ++ r)) [
      | Less ↦ λ e k.
          let turned : scope_order v u ≡ Greater = scope_order_total.antisymm v u ∙ ap ordering_reverse e in
          let no : Greater ≡ Less = sym (ap (λ o. ordering_then o (path_order y (x ++ s ∷ []))) turned) ∙ below in
          absurd cc
      | Equal ↦ λ e k.
          let same : u ≡ v = scope_order_tells u v e in
          let tied : scope_order v u ≡ Equal = scope_order_total.antisymm v u ∙ ap ordering_reverse e in
          let rest = between x y s k (sym (ap (λ o. ordering_then o (path_order y (x ++ s ∷ []))) tied) ∙ below) in
          (rest.0, λ i. sym same i ∷ rest.1 i)
      | Greater ↦ λ e k. absurd cc
    ] refl above

module _ (t : CountedTree) (tree : IsTree t) where
  abbrev path : ℕ → Path
  path i = node_path t.nodes i

  abbrev parent : ℕ → ℕ
  parent j = (node_at t.nodes j).parent

  less : (i j : ℕ) → i < j → j < length t.nodes → path_order (path i) (path j) ≡ Less
  less i j lt inside = (let long = as_many_paths t.nodes in tree.preorder.ascend i j [] lt (omega (arith, long, inside)))

  at_most : (a p : ℕ) (r : Path) → a < length t.nodes → p < length t.nodes → path p ≡ path a ++ r → a ≤ p
  at_most a p r lta ltp is = elim (cases_lt p a) [
    | inl lt ↦ absurd (never r is (less p a lt lta))
    | inr ge ↦ ge
  ]
    where
      never : (r : Path) → path p ≡ path a ++ r → path_order (path p) (path a) ≡ Less → ⊥
      never [] is less_is =
          let same : path p ≡ path a = is ∙ append-nil (path a) in
          less_is_not_equal (sym less_is ∙ ap (path_order (path p)) (sym same) ∙ tied (path p))
        where
          tied : (q : Path) → path_order q q ≡ Equal
          tied q = tied_itself path_order_total q
      never (s ∷ r) is less_is =
          let above : path_order (path a) (path p) ≡ Less = ap (path_order (path a)) is ∙ prefix_less (path a) s r in
          less_is_not_greater (sym less_is ∙ path_order_total.antisymm (path p) (path a) ∙ ap ordering_reverse above)

  -- a node between a parent and its child has a parent, and that is no smaller
  pub enclosed : (a i j : ℕ) → a < i → i < j → j < length t.nodes → parent j ≡ a → (parent i ≢ no_parent) × (a ≤ parent i)
  enclosed a i j above below inside is =
      let few = tree.few in
      let inner_j : parent j ≢ no_parent = λ root. absurd (omega (arith, root, is, few)) in
      let path_j : path j ≡ path a ++ (node_at t.nodes j).scope ∷ [] = inner_is t tree j inside inner_j ∙ ap (λ (k : ℕ). path k ++ (node_at t.nodes j).scope ∷ []) is in
      let parts = between (path a) (path i) (node_at t.nodes j).scope (less a i above (omega arith)) (ap (path_order (path i)) (sym path_j) ∙ less i j below inside) in
      elim (cases_eq (parent i) no_parent) [
        | inl root ↦ absurd (elim (shorter_prefix [] (node_at t.nodes i).scope (path a) parts.0 (sym (root_is t tree i (omega arith) root) ∙ parts.1)) [
          | inl whole ↦ not_same a i above inside below (whole ∙ sym (root_is t tree i (omega arith) root))
          | inr part ↦ none (path a) part.0 (some_path t tree a (omega arith)) part.1
        ])
        | inr inner ↦
            let before = parent_before t tree i (omega arith) inner in (
              inner,
              elim (shorter_prefix (path (parent i)) (node_at t.nodes i).scope (path a) parts.0 (sym (inner_is t tree i (omega arith) inner) ∙ parts.1)) [
                | inl whole ↦ absurd (not_same a i above inside below (whole ∙ sym (inner_is t tree i (omega arith) inner)))
                | inr part ↦ at_most a (parent i) part.0 (omega arith) (omega arith) part.1
              ],
            )
      ]
    where
      not_same : (a i : ℕ) → a < i → j < length t.nodes → i < j → path a ≡ path i → ⊥
      not_same a i above inside below e =
          let long = as_many_paths t.nodes in
          let number = numbers_tell _ tree.preorder.ascend a i (omega (arith, long)) (omega (arith, long)) e in
          absurd (omega (arith, number))

      none : (m r : Path) → (m ≡ [] → ⊥) → [] ≡ m ++ r → ⊥
      none [] r some e = some refl
      none (x ∷ m) r some e = absurd cc
