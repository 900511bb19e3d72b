-- Up from a node to its ancestors, by the numbers of parents.
use Rattle.std.proofs.Common.{◌≡◌, ℕ, zero, suc, ◌+◌, ◌<◌, ◌≤◌, List, [], ◌∷◌, ◌++◌, length, get_or, Less, refl, sym, ap, subst, ◌∙◌, arith, inl, inr, append-nil, length-append}
use Rattle.std.specs.Ordering.{ordering_reverse}
use Rattle.std.specs.Prelude.{◌≢◌, ◌⊎◌}
use Rattle.std.proofs.Math.ListN.{get_or-eq_default}
use Rattle.std.proofs.lemmas.Bool.{cases_eq, cases_lt}
use Rattle.std.proofs.lemmas.Cmp.{tied_itself}
use Rattle.std.proofs.lemmas.List.{get_or-map}
use Rattle.std.proofs.lemmas.List.Elements.{Contains-get_or}
use Rattle.scope_types.specs.CallPaths.{ColumnPath}
use Rattle.scope_types.specs.Order.{path_order}
use Rattle.scope_types.specs.declared.scope.Scope.{Scope}
use Rattle.scope_types.proofs.Orders.{path_order_total}
use Rattle.tree_types.specs.declared.content.Content.{Content}
use Rattle.tree_types.specs.declared.content.Node.{Node}
use Rattle.tree_types.specs.Laws.{node}
use Rattle.tree_types.specs.Nodes.{nodes, no_parent, own_scope, parent_number}
use Rattle.tree_types.specs.OfContent.{IsProfile}
use Rattle.tree_types.specs.Paths.{Path}
use Rattle.tree_types.specs.PathsOf.{paths_of}
use Rattle.tree_types.proofs.ContentParts.{own_nodes}
use Rattle.tree_types.proofs.Enclosed.{between}
use Rattle.tree_types.proofs.NodeLaws.{nodes_ascend, node_is_prefix}
use Rattle.tree_types.proofs.Parents.{has_parent, prefix_less, less_is_not_equal, less_is_not_greater}
use Rattle.tree_types.proofs.TreeLaws.{numbers_tell}
use Rattle.tree_types.proofs.TreePaths.{own_scope_only}
use Rattle.tree_types.proofs.TreeValues.{shorter_prefix}
use Rattle.view_tables.specs.private.Values.{path_of_node}
use Rattle.view_tables.specs.private.top.Rows.{IsNumber, LiesBelow, number_before}
use Rattle.view_tables.proofs.EntrySums.{as_many_nodes}

module _ (ps : List ColumnPath) (few : length (nodes ps) ≤ no_parent) where
  abbrev path : ℕ → Path
  path i = node (nodes ps) i

  abbrev up : ℕ → ℕ
  up i = parent_number (nodes ps) (path i)

  no_path : path no_parent ≡ []
  no_path = get_or-eq_default (nodes ps) [] few

  some_path : (i : ℕ) → i < length (nodes ps) → 0 < length (path i)
  some_path i lt = (node_is_prefix ps (path i) (Contains-get_or (nodes ps) i [] lt)).2.some

  longer : (m : ℕ) → 0 < m → (m ≡ 1 → ⊥) → 1 < m
  longer zero some apart = absurd (omega arith)
  longer (suc zero) some apart = absurd (apart refl)
  longer (suc (suc m)) some apart = omega arith

  -- a node's path is its parent's and one scope; that of no node is empty
  step : (i : ℕ) → i < length (nodes ps) → (s : Scope) × (path i ≡ path (up i) ++ s ∷ [])
  step i lt =
      let h = has_parent ps i lt in
      elim (cases_eq (length (path i)) 1) [
        | inl e ↦ (own_scope (path i), sym (own_scope_only (path i) e) ∙ ap (λ (x : Path). x ++ own_scope (path i) ∷ []) (sym (ap path (h.root e) ∙ no_path)))
        | inr apart ↦ h.longer (longer (length (path i)) (some_path i lt) apart)
      ]

  parent_before : (i : ℕ) → i < length (nodes ps) → (up i ≡ no_parent) ⊎ (up i < i)
  parent_before i lt =
      let h = has_parent ps i lt in
      elim (cases_eq (length (path i)) 1) [
        | inl e ↦ inl (h.root e)
        | inr apart ↦ inr (h.before (longer (length (path i)) (some_path i lt) apart))
      ]

  -- a path has no more scopes than there are nodes up to its own
  few_scopes : (n i : ℕ) → i < n → i < length (nodes ps) → length (path i) ≤ i + 1
  few_scopes zero i below lt = absurd (omega arith)
  few_scopes (suc n) i below lt =
      let s = step i lt in
      let long : length (path i) ≡ length (path (up i)) + 1 = ap length s.1 ∙ length-append (path (up i)) (s.0 ∷ []) in
      elim (parent_before i lt) [
        | inl root ↦ (let none : length (path (up i)) ≡ 0 = ap (λ (k : ℕ). length (path k)) root ∙ ap length no_path in omega (arith, long, none))
        | inr less ↦ (let above = few_scopes n (up i) (omega arith) (omega arith) in omega (arith, long, above, less))
      ]

  abbrev IsAny : ℕ → Type 0
  IsAny i = (i ≡ no_parent) ⊎ (i < length (nodes ps))

  any_parent : (i : ℕ) → i < length (nodes ps) → IsAny (up i)
  any_parent i lt = elim (parent_before i lt) [ inl root ↦ inl root | inr less ↦ inr (omega arith) ]

  none_left : (q r : Path) → [] ≡ q ++ r → length q ≡ 0
  none_left [] r e = refl
  none_left (s ∷ q) r e = absurd cc

  -- what lies below another number is a node, unless it is that number
  in_range : (at to : ℕ) (rest : Path) → IsAny at → IsAny to → path at ≡ path to ++ rest → at ≢ to → at < length (nodes ps)
  in_range at to rest any_at any_to parts apart = elim any_at [
    | inr lt ↦ lt
    | inl root ↦
        let empty : [] ≡ path to ++ rest = sym (ap path root ∙ no_path) ∙ parts in
        elim any_to [
          | inl top ↦ absurd (apart (root ∙ sym top))
          | inr inside ↦ (let none = none_left (path to) rest empty in let some = some_path to inside in absurd (omega (arith, none, some)))
        ]
  ]

  up_still : (at to : ℕ) (rest : Path) → at < length (nodes ps) → IsAny to → path at ≡ path to ++ rest → at ≢ to → (r : Path) × (path (up at) ≡ path to ++ r)
  up_still at to rest lt any_to parts apart =
      let s = step at lt in
      elim (shorter_prefix (path (up at)) s.0 (path to) rest (sym s.1 ∙ parts)) [
        | inr part ↦ part
        | inl whole ↦
            let same : path at ≡ path to = s.1 ∙ sym whole in
            elim any_to [
              | inl top ↦ (let none : length (path at) ≡ 0 = ap length (same ∙ ap path top ∙ no_path) in let some = some_path at lt in absurd (omega (arith, none, some)))
              | inr inside ↦ absurd (apart (numbers_tell (nodes ps) (nodes_ascend ps) at to lt inside same))
            ]
      ]

  -- the node before lies below the parent
  before_lies : (i : ℕ) → i < length (nodes ps) → (r : Path) × (path (number_before i) ≡ path (up i) ++ r)
  before_lies zero lt = elim (parent_before zero lt) [
    | inl root ↦ ([], ap path (sym root) ∙ sym (append-nil (path (up zero))))
    | inr less ↦ absurd (omega arith)
  ]
  before_lies (suc m) lt = elim (parent_before (suc m) lt) [
    | inl root ↦ (path m, ap (λ (x : Path). x ++ path m) (sym (ap path root ∙ no_path)))
    | inr less ↦ elim (cases_eq (up (suc m)) m) [
      | inl same ↦ ([], ap path (sym same) ∙ sym (append-nil (path (up (suc m)))))
      | inr apart ↦
          let s = step (suc m) lt in
          let above : path_order (path (up (suc m))) (path m) ≡ Less = nodes_ascend ps (up (suc m)) m [] (below (up (suc m)) m less apart) (omega arith) in
          let below_next : path_order (path m) (path (suc m)) ≡ Less = nodes_ascend ps m (suc m) [] (omega arith) lt in
          between (path (up (suc m))) (path m) s.0 above (sym (ap (path_order (path m)) s.1) ∙ below_next)
    ]
  ]
    where
      below : (p m : ℕ) → p < suc m → p ≢ m → p < m
      below p m lt apart = omega arith

  -- a node that a path's extension comes before is no earlier than the path
  not_before : (a p : ℕ) (r : Path) → a < length (nodes ps) → p < length (nodes ps) → path p ≡ path a ++ r → a ≤ p
  not_before a p r lta ltp parts = elim (cases_lt p a) [
    | inl lt ↦ absurd (never r parts (nodes_ascend ps p a [] lt lta))
    | inr ge ↦ ge
  ]
    where
      never : (r : Path) → path p ≡ path a ++ r → path_order (path p) (path a) ≡ Less → ⊥
      never [] is less =
          let same : path p ≡ path a = is ∙ append-nil (path a) in
          less_is_not_equal (sym less ∙ ap (path_order (path p)) (sym same) ∙ tied_itself path_order_total (path p))
      never (s ∷ r) is less =
          let above : path_order (path a) (path p) ≡ Less = ap (path_order (path a)) is ∙ prefix_less (path a) s r in
          less_is_not_greater (sym less ∙ path_order_total.antisymm (path p) (path a) ∙ ap ordering_reverse above)

  -- a node between a parent and its child lies below that parent
  enclosed : (a i j : ℕ) → a < i → i < j → j < length (nodes ps) → up j ≡ a → (a ≤ up i) × (up i < i)
  enclosed a i j above below inside is =
      let lta : a < length (nodes ps) = omega (arith, above, below, inside) in
      let lti : i < length (nodes ps) = omega (arith, below, inside) in
      let child = step j inside in
      let path_j : path j ≡ path a ++ child.0 ∷ [] = child.1 ∙ ap (λ (k : ℕ). path k ++ child.0 ∷ []) is in
      let parts = between (path a) (path i) child.0 (nodes_ascend ps a i [] above lti) (ap (path_order (path i)) (sym path_j) ∙ nodes_ascend ps i j [] below inside) in
      let own = step i lti in
      elim (shorter_prefix (path (up i)) own.0 (path a) parts.0 (sym own.1 ∙ parts.1)) [
        | inl whole ↦ (let same = numbers_tell (nodes ps) (nodes_ascend ps) a i lta lti (whole ∙ sym own.1) in absurd (omega (arith, same, above)))
        | inr part ↦ elim (parent_before i lti) [
          | inl root ↦
              let none = none_left (path a) part.0 (sym (ap path root ∙ no_path) ∙ part.1) in
              let some = some_path a lta in
              absurd (omega (arith, none, some))
          | inr less ↦ (not_before a (up i) part.0 lta (omega (arith, less, lti)) part.1, less)
        ]
      ]

-- ---- of a content

pub parent_is : (c : Content) (i : ℕ) (d : Node) → IsProfile c → i < length c.nodes → (get_or c.nodes i d).parent ≡ parent_number (nodes (paths_of c)) (path_of_node c i)
parent_is c i d profile lt =
    let ns : List Path = nodes (paths_of c) in
    ap (λ (all : List Node). (get_or all i d).parent) (own_nodes c profile.own)
    ∙ ap (λ (n : Node). n.parent) (get_or-map (λ n. record { parent = parent_number ns n; scope = own_scope n }) ns i [] d (omega (arith, lt, as_many_nodes c profile)))

pub scope_is : (c : Content) (i : ℕ) (d : Node) → IsProfile c → i < length c.nodes → (get_or c.nodes i d).scope ≡ own_scope (path_of_node c i)
scope_is c i d profile lt =
    let ns : List Path = nodes (paths_of c) in
    ap (λ (all : List Node). (get_or all i d).scope) (own_nodes c profile.own)
    ∙ ap (λ (n : Node). n.scope) (get_or-map (λ n. record { parent = parent_number ns n; scope = own_scope n }) ns i [] d (omega (arith, lt, as_many_nodes c profile)))

few_nodes : (c : Content) → IsProfile c → length (nodes (paths_of c)) ≤ no_parent
few_nodes c profile = omega (arith, profile.nodes, as_many_nodes c profile)

as_any : (c : Content) (i : ℕ) → IsProfile c → IsNumber c i → (i ≡ no_parent) ⊎ (i < length (nodes (paths_of c)))
as_any c i profile is = elim is [ inl root ↦ inl root | inr lt ↦ inr (omega (arith, lt, as_many_nodes c profile)) ]

as_number : (c : Content) (i : ℕ) → IsProfile c → (i ≡ no_parent) ⊎ (i < length (nodes (paths_of c))) → IsNumber c i
as_number c i profile is = elim is [ inl root ↦ inl root | inr lt ↦ inr (omega (arith, lt, as_many_nodes c profile)) ]

pub below_is_node : (c : Content) (at to : ℕ) → IsProfile c → LiesBelow c at to → at ≢ to → at < length c.nodes
below_is_node c at to profile lies apart =
    let inside = in_range (paths_of c) (few_nodes c profile) at to lies.rest (as_any c at profile lies.below) (as_any c to profile lies.above) lies.parts apart in
    omega (arith, inside, as_many_nodes c profile)

pub parent_lies_below : (c : Content) (at to : ℕ) (d : Node) → IsProfile c → LiesBelow c at to → at ≢ to → LiesBelow c (get_or c.nodes at d).parent to
parent_lies_below c at to d profile lies apart =
    let ps : List ColumnPath = paths_of c in
    let few = few_nodes c profile in
    let lt = below_is_node c at to profile lies apart in
    let inside : at < length (nodes ps) = omega (arith, lt, as_many_nodes c profile) in
    let still = up_still ps few at to lies.rest inside (as_any c to profile lies.above) lies.parts apart in
    let is : parent_number (nodes ps) (path_of_node c at) ≡ (get_or c.nodes at d).parent = sym (parent_is c at d profile lt) in
    record {
      below = subst (λ (k : ℕ). IsNumber c k) is (as_number c (parent_number (nodes ps) (path_of_node c at)) profile (any_parent ps few at inside));
      above = lies.above;
      rest = still.0;
      parts = ap (path_of_node c) (sym is) ∙ still.1;
    }

pub one_shorter : (c : Content) (at : ℕ) (d : Node) → IsProfile c → at < length c.nodes → length (path_of_node c at) ≡ length (path_of_node c (get_or c.nodes at d).parent) + 1
one_shorter c at d profile lt =
    let ps : List ColumnPath = paths_of c in
    let inside : at < length (nodes ps) = omega (arith, lt, as_many_nodes c profile) in
    let s = step ps (few_nodes c profile) at inside in
    ap length s.1 ∙ length-append (path_of_node c (parent_number (nodes ps) (path_of_node c at))) (s.0 ∷ [])
    ∙ ap (λ (k : ℕ). length (path_of_node c k) + 1) (sym (parent_is c at d profile lt))

-- what is in place of a root's parent has no scope
pub no_depth : (c : Content) → IsProfile c → 0 ≡ length (path_of_node c no_parent)
no_depth c profile = sym (ap length (no_path (paths_of c) (few_nodes c profile)))

pub few_depth : (c : Content) (i : ℕ) → IsProfile c → IsNumber c i → length (path_of_node c i) ≤ no_parent
few_depth c i profile is =
    let few = few_nodes c profile in
    elim (as_any c i profile is) [
      | inl root ↦ (let none : length (path_of_node c i) ≡ 0 = ap (λ (k : ℕ). length (path_of_node c k)) root ∙ sym (no_depth c profile) in omega (arith, none))
      | inr lt ↦ (let scopes = few_scopes (paths_of c) few (i + 1) i (omega arith) lt in omega (arith, scopes, lt, few))
    ]

-- each path begins with that of no node
pub below_none : (c : Content) (i : ℕ) → IsProfile c → IsNumber c i → LiesBelow c i no_parent
below_none c i profile is = record {
  below = is;
  above = inl refl;
  rest = path_of_node c i;
  parts = ap (λ (x : Path). x ++ path_of_node c i) (sym (no_path (paths_of c) (few_nodes c profile)));
}

pub before_number : (c : Content) (i : ℕ) → i ≤ length c.nodes → IsNumber c (number_before i)
before_number c zero le = inl refl
before_number c (suc m) le = inr (omega arith)

pub before_lies_below : (c : Content) (i : ℕ) (d : Node) → IsProfile c → i < length c.nodes → LiesBelow c (number_before i) (get_or c.nodes i d).parent
before_lies_below c i d profile lt =
    let ps : List ColumnPath = paths_of c in
    let few = few_nodes c profile in
    let inside : i < length (nodes ps) = omega (arith, lt, as_many_nodes c profile) in
    let still = before_lies ps few i inside in
    let is : parent_number (nodes ps) (path_of_node c i) ≡ (get_or c.nodes i d).parent = sym (parent_is c i d profile lt) in
    record {
      below = before_number c i (omega (arith, lt));
      above = subst (λ (k : ℕ). IsNumber c k) is (as_number c (parent_number (nodes ps) (path_of_node c i)) profile (any_parent ps few i inside));
      rest = still.0;
      parts = still.1 ∙ ap (λ (k : ℕ). path_of_node c k ++ still.0) is;
    }

pub enclosed_at : (c : Content) (a i j : ℕ) (d : Node) → IsProfile c → a < i → i < j → j < length c.nodes → (get_or c.nodes j d).parent ≡ a
    → (a ≤ (get_or c.nodes i d).parent) × ((get_or c.nodes i d).parent < i)
enclosed_at c a i j d profile above below inside is =
    let many = as_many_nodes c profile in
    let both = enclosed (paths_of c) (few_nodes c profile) a i j above below (omega (arith, inside, many)) (sym (parent_is c j d profile inside) ∙ is) in
    let own = parent_is c i d profile (omega (arith, below, inside)) in
    let low = both.0 in
    let high = both.1 in
    (omega (arith, low, own), omega (arith, high, own))

pub number_after : (i : ℕ) → number_before (i + 1) ≡ i
number_after zero = refl
number_after (suc i) = ap number_before (let e : suc i + 1 ≡ suc (suc i) = omega arith in e)

pub ruleset climb_steps = (below_is_node, parent_lies_below, one_shorter)

pub ruleset whole_steps = (below_none, no_depth)

pub ruleset depth_steps = (before_lies_below, one_shorter)
