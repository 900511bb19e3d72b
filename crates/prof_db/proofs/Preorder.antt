-- Nodes that the fifth rule passes are in preorder.
use Rattle.std.proofs.Common.{◌≡◌, ℕ, zero, suc, ◌<◌, ◌≤◌, ◌==◌, ◌&&◌, ◌||◌, nat_lt, Ok, inl, inr, Bool, true, false, cond, List, [], ◌∷◌, ◌++◌, length, get_or, Less, Equal, Greater, Ordering, refl, sym, ap, subst, ◌∙◌, arith, true≢false, append-nil, append_assoc}
use Rattle.std.specs.Prelude.{◌≢◌}
use Rattle.std.specs.List.{list_any}
use Rattle.std.specs.Ordering.{is_lt, ordering_then}
use Rattle.std.proofs.lemmas.Bool.{cases_eq, or_cases, not-false}
use Rattle.std.proofs.lemmas.Bool.Decides.{nat_tests}
use Rattle.std.proofs.lemmas.Cmp.{tied_itself}
use Rattle.std.proofs.lemmas.List.{get_or_default}
use Rattle.scope_types.specs.declared.scope.RootKind.TheVariants.{Thread}
use Rattle.scope_types.specs.declared.scope.Scope.{Scope}
use Rattle.scope_types.specs.declared.scope.Scope.TheVariants.{Root}
use Rattle.scope_types.specs.Order.{scope_order, path_order}
use Rattle.scope_types.proofs.Orders.{scope_order_total, path_order_total}
use Rattle.tree_types.specs.declared.content.Node.{Node}
use Rattle.tree_types.specs.Nodes.{no_parent}
use Rattle.tree_types.specs.Paths.{Path}
use Rattle.tree_types.specs.PathsOf.{tree_paths}
use Rattle.tree_types.specs.Tree.{IsPreorder, node_at, node_path}
use Rattle.tree_types.proofs.Parents.{prefix_less}
use Rattle.tree_types.proofs.PathSteps.{as_many_paths, root_path, inner_path}
use Rattle.prof_db.specs.declared.raw.RawNode.{RawNode}
use Rattle.prof_db.specs.NodeRules.{in_preorder, line_up, siblings_ascend, node_breaks, nodes_kept, raw_node_at}
use Rattle.prof_db.proofs.FirstBroken.{none_broken}

pub and_parts : (a b : Bool) → (a && b) ≡ true → (a ≡ true) × (b ≡ true)
and_parts true true e = (refl, refl)
and_parts true false e = absurd (true≢false (sym e))
and_parts false b e = absurd (true≢false (sym e))

less_is : (o : Ordering) → is_lt o ≡ true → o ≡ Less
less_is Less e = refl
less_is Equal e = absurd (true≢false (sym e))
less_is Greater e = absurd (true≢false (sym e))

-- two paths that part at a scope
parted : (b r : Path) (t s : Scope) → scope_order t s ≡ Less → path_order ((b ++ t ∷ []) ++ r) (b ++ s ∷ []) ≡ Less
parted [] r t s less = ap (λ o. ordering_then o (path_order r [])) less
parted (u ∷ b) r t s less = ap (λ o. ordering_then o (path_order ((b ++ t ∷ []) ++ r) (b ++ s ∷ []))) (tied_itself scope_order_total u) ∙ parted b r t s less

-- a node on the way up from another
record IsAbove (nodes : List Node) (j k : ℕ) : Type 0 where
  within : k ≤ j
  rest : Path
  extends : node_path nodes j ≡ node_path nodes k ++ rest

module _ (nodes : List Node) (few : length nodes < no_parent) (ok : (i : ℕ) → i < length nodes → in_preorder nodes i ≡ true) where
  abbrev parent : ℕ → ℕ
  parent i = (node_at nodes i).parent

  abbrev scope : ℕ → Scope
  scope i = (node_at nodes i).scope

  abbrev path : ℕ → Path
  path i = node_path nodes i

  abbrev none : Node
  none = record { parent = no_parent; scope = Root Thread }

  rooted : (i : ℕ) → i < length nodes → parent i ≡ no_parent → path i ≡ scope i ∷ []
  rooted i lt root = root_path nodes i none lt root

  inside : (i : ℕ) → i < length nodes → parent i ≢ no_parent → parent i < i → path i ≡ path (parent i) ++ scope i ∷ []
  inside i lt inner before = inner_path nodes i none lt inner before

  none_above : (m j : ℕ) (f : ℕ → Bool) → j ≡ no_parent → list_any f (line_up nodes m j) ≡ false
  none_above zero j f root = refl
  none_above (suc m) j f root =
      let out : nat_lt j (length nodes) ≡ false = grind (arith, nat_tests) in
      ap (λ b. list_any f (cond b (j ∷ line_up nodes m (parent j)) [])) out

  found : (m j : ℕ) (f : ℕ → Bool) → j < length nodes → ((x : ℕ) → x ≤ j → parent x ≢ no_parent → parent x < x)
      → list_any f (line_up nodes m j) ≡ true → (k : ℕ) × ((f k ≡ true) × IsAbove nodes j k)
  found zero j f lt before e = absurd (true≢false (sym e))
  found (suc m) j f lt before e =
      let in_it : nat_lt j (length nodes) ≡ true = grind (arith, nat_tests) in
      let either : (f j || list_any f (line_up nodes m (parent j))) ≡ true = ap (λ b. list_any f (cond b (j ∷ line_up nodes m (parent j)) [])) (sym in_it) ∙ e in
      elim (or_cases (f j) (list_any f (line_up nodes m (parent j))) either) [
        | inl here ↦ (j, (here, record { within = omega arith; rest = []; extends = sym (append-nil (path j)) }))
        | inr above ↦ elim (cases_eq (parent j) no_parent) [
          | inl root ↦ absurd (true≢false (sym above ∙ none_above m (parent j) f root))
          | inr inner ↦
              let less : parent j < j = before j (omega arith) inner in
              let r = found m (parent j) f (omega arith) (λ x le. before x (omega arith)) above in
              let low : r.0 ≤ parent j = r.1.1.within in (
                r.0,
                (
                  r.1.0,
                  record {
                    within = omega arith;
                    rest = r.1.1.rest ++ scope j ∷ [];
                    extends = inside j lt inner less ∙ ap (λ (p : Path). p ++ scope j ∷ []) r.1.1.extends ∙ append_assoc (path r.0) r.1.1.rest (scope j ∷ []);
                  },
                ),
              )
        ]
      ]

  abbrev Before : ℕ → Type 0
  Before i = (x : ℕ) → x ≤ i → parent x ≢ no_parent → parent x < x

  abbrev behind : ℕ → ℕ → Bool
  behind i k = siblings_ascend (node_at nodes k) (node_at nodes (suc i))

  same_parent : (i k : ℕ) → behind i k ≡ true → parent k ≡ parent (suc i)
  same_parent i k e = let same = (and_parts (parent k == parent (suc i)) (is_lt (scope_order (scope k) (scope (suc i)))) e).0 in grind (arith, nat_tests)

  scopes_up : (i k : ℕ) → behind i k ≡ true → scope_order (scope k) (scope (suc i)) ≡ Less
  scopes_up i k e = less_is (scope_order (scope k) (scope (suc i))) (and_parts (parent k == parent (suc i)) (is_lt (scope_order (scope k) (scope (suc i)))) e).1

  step : (i : ℕ) → suc i < length nodes → Before i → parent (suc i) ≢ no_parent → parent (suc i) < suc i
  step i lt before inner =
      elim (or_cases (parent (suc i) == i) (list_any (behind i) (line_up nodes (suc i) i)) (ok (suc i) lt)) [
        | inl first ↦ (let is : parent (suc i) ≡ i = grind (arith, nat_tests) in omega arith)
        | inr sibling ↦
            let r = found (suc i) i (behind i) (omega arith) before sibling in
            let same = same_parent i r.0 r.1.0 in
            let low : r.0 ≤ i = r.1.1.within in
            let less : parent r.0 < r.0 = before r.0 low (λ root. inner (sym same ∙ root)) in
            omega arith
      ]

  first_root : 0 < length nodes → parent 0 ≡ no_parent
  first_root lt = let e = ok 0 lt in grind (arith, nat_tests)

  upto : (i : ℕ) → i < length nodes → Before i
  upto zero lt x le inner = (let is : x ≡ 0 = omega arith in absurd (inner (ap parent is ∙ first_root lt)))
  upto (suc i) lt x le inner = elim (cases_eq x (suc i)) [
    | inl same ↦ subst (λ (z : ℕ). parent z < z) (sym same) (step i lt (upto i (omega arith)) (λ root. inner (ap parent same ∙ root)))
    | inr apart ↦ upto i (omega arith) x (omega arith) inner
  ]

  -- each node's path comes before the next one's
  next_up : (i : ℕ) → suc i < length nodes → path_order (path i) (path (suc i)) ≡ Less
  next_up i lt =
      let before : Before (suc i) = upto (suc i) lt in
      elim (or_cases (parent (suc i) == i) (list_any (behind i) (line_up nodes (suc i) i)) (ok (suc i) lt)) [
        | inl first ↦
            let is : parent (suc i) ≡ i = grind (arith, nat_tests) in
            let inner : parent (suc i) ≢ no_parent = λ root. absurd (omega (arith, is, root, few)) in
            ap (path_order (path i)) (inside (suc i) lt inner (omega arith) ∙ ap (λ (k : ℕ). path k ++ scope (suc i) ∷ []) is) ∙ prefix_less (path i) (scope (suc i)) []
        | inr sibling ↦
            let r = found (suc i) i (behind i) (omega arith) (upto i (omega arith)) sibling in
            let same = same_parent i r.0 r.1.0 in
            let up = scopes_up i r.0 r.1.0 in
            let low : r.0 ≤ i = r.1.1.within in
            let rest : Path = r.1.1.rest in
            let extends = r.1.1.extends in
            elim (cases_eq (parent (suc i)) no_parent) [
              | inl root ↦
                  let own : path i ≡ (scope r.0 ∷ []) ++ rest = extends ∙ ap (λ (p : Path). p ++ rest) (rooted r.0 (omega arith) (same ∙ root)) in
                  ap (λ (p : Path). path_order p (path (suc i))) own ∙ ap (path_order ((scope r.0 ∷ []) ++ rest)) (rooted (suc i) lt root) ∙ parted [] rest (scope r.0) (scope (suc i)) up
              | inr inner ↦
                  let p : Path = path (parent (suc i)) in
                  let above : parent r.0 ≢ no_parent = λ root. inner (sym same ∙ root) in
                  let own : path i ≡ (p ++ scope r.0 ∷ []) ++ rest = extends ∙ ap (λ (q : Path). q ++ rest) (inside r.0 (omega arith) above (upto i (omega arith) r.0 low above) ∙ ap (λ (k : ℕ). path k ++ scope r.0 ∷ []) same) in
                  ap (λ (q : Path). path_order q (path (suc i))) own ∙ ap (path_order ((p ++ scope r.0 ∷ []) ++ rest)) (inside (suc i) lt inner (before (suc i) (omega arith) inner)) ∙ parted p rest (scope r.0) (scope (suc i)) up
            ]
      ]

  all_up : (i j : ℕ) → i < j → j < length nodes → path_order (path i) (path j) ≡ Less
  all_up i zero below lt = absurd (omega arith)
  all_up i (suc j) below lt = elim (cases_eq i j) [
    | inl same ↦ ap (λ (k : ℕ). path_order (path k) (path (suc j))) same ∙ next_up j lt
    | inr apart ↦ path_order_total.trans (path i) (path j) (path (suc j)) (all_up i j (omega arith) (omega arith)) (next_up j lt)
  ]

  pub stand_in_preorder : IsPreorder nodes
  stand_in_preorder = record {
    parents = λ i d lt inner. (let is = ap (λ (n : Node). n.parent) (get_or_default nodes i d none lt) in subst (λ (k : ℕ). k < i) (sym is) (upto i lt i (omega arith) (λ root. inner (is ∙ root))));
    ascend = λ i j d below lt.
        let long = as_many_paths nodes in
        let first = get_or_default (tree_paths nodes) i d [] (omega arith) in
        let second = get_or_default (tree_paths nodes) j d [] lt in
        ap (λ (p : Path). path_order p (get_or (tree_paths nodes) j d)) first ∙ ap (path_order (path i)) second ∙ all_up i j below (omega arith);
  }

-- ---- the rule

or_first : (a b : Bool) → (a || b) ≡ false → a ≡ false
or_first true b e = absurd (true≢false e)
or_first false b e = refl

pub rule_is_kept : (procs files : ℕ) (raws : List RawNode) (nodes : List Node) → nodes_kept procs files raws nodes ≡ Ok tt → (i : ℕ) → i < length nodes → in_preorder nodes i ≡ true
rule_is_kept procs files raws nodes kept i lt =
    let whole = none_broken 5 (node_breaks procs files raws nodes) (λ i. (raw_node_at raws i).offset) 0 (length nodes) i kept (omega arith) (omega arith) in
    (and_parts _ _ (and_parts _ _ (not-false _ (or_first _ _ whole))).1).0

pub preorder_of_rule : (procs files : ℕ) (raws : List RawNode) (nodes : List Node) → length nodes < no_parent → nodes_kept procs files raws nodes ≡ Ok tt → IsPreorder nodes
preorder_of_rule procs files raws nodes few kept = stand_in_preorder nodes few (rule_is_kept procs files raws nodes kept)

pub preorder_of_copy : (procs files : ℕ) (raws : List RawNode) (copy nodes : List Node) → copy ≡ nodes → length nodes < no_parent → nodes_kept procs files raws copy ≡ Ok tt → IsPreorder nodes
preorder_of_copy procs files raws copy nodes same few kept = preorder_of_rule procs files raws nodes few (subst (λ (ns : List Node). nodes_kept procs files raws ns ≡ Ok tt) same kept)
