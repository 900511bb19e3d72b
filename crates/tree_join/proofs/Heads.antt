-- The nodes that are next in walks, and which of them is first.
use Rattle.std.proofs.Common.{◌≡◌, ℕ, ◌+◌, ◌<◌, ◌==◌, ◌||◌, ◌&&◌, ◌⊎◌, nat_lt, inl, inr, Bool, true, false, cond, List, [], ◌∷◌, ◌++◌, length, AllPairs, Less, Equal, Greater, Ordering, refl, sym, ap, ap₂, subst, ◌∙◌, arith, true≢false}
use Rattle.std.specs.Ordering.{is_lt, ordering_reverse}
use Rattle.std.proofs.Math.Nat.{mod-eq_of_lt}
use Rattle.std.proofs.lemmas.Bool.{cases_order, eq-eqb, ne_eqb, lt-ltb, le-ltb}
use Rattle.scope_types.specs.declared.scope.Scope.{Scope}
use Rattle.scope_types.specs.Order.{scope_order, path_order}
use Rattle.scope_types.proofs.Orders.{scope_order_total, scope_order_tells}
use Rattle.tree_types.specs.declared.content.Node.{Node}
use Rattle.tree_types.specs.Nodes.{no_parent}
use Rattle.tree_types.specs.Paths.{Path}
use Rattle.tree_types.specs.PathsOf.{tree_paths, path_below}
use Rattle.tree_types.proofs.PathSteps.{as_many_paths}
use Rattle.path_trie.specs.Trie.{IsIndex, path_at}
use Rattle.path_trie.specs.private.Linked.{next_index, node_with}
use Rattle.path_trie.proofs.Places.{path_none, place_cases}
use Rattle.tree_join.specs.private.Walk.{path_or_none, node_before}
use Rattle.tree_join.proofs.Parting.{between, parts_less, siblings_part, parts_same}

-- ---- the order of nodes that are next

-- a deeper parent, or a smaller scope below the same one
abbrev pub Before : Node → Node → Type 0
Before a b = (next_index b.parent < next_index a.parent) ⊎ ((next_index b.parent ≡ next_index a.parent) × (scope_order a.scope b.scope ≡ Less))

pub before_of : (a b : Node) → node_before a b ≡ true → Before a b
before_of a b e =
    elim (cases_order (next_index b.parent) (next_index a.parent)) [
      | inl same ↦ inr (same, less_of (scope_order a.scope b.scope) (sym (ap₂ (λ s t. s || (t && is_lt (scope_order a.scope b.scope))) (le-ltb (next_index b.parent) (next_index a.parent) (omega arith)) (eq-eqb (next_index b.parent) (next_index a.parent) same)) ∙ e))
      | inr (inl less) ↦ inl less
      | inr (inr more) ↦ absurd (true≢false (sym e ∙ ap₂ (λ s t. s || (t && is_lt (scope_order a.scope b.scope))) (le-ltb (next_index b.parent) (next_index a.parent) (omega arith)) (ne_eqb (next_index b.parent) (next_index a.parent) (λ same. absurd (omega arith)))))
    ]
  where
    less_of : (o : Ordering) → is_lt o ≡ true → o ≡ Less
    less_of Less h = refl
    less_of Equal h = absurd cc
    less_of Greater h = absurd cc

pub before_from : (a b : Node) → Before a b → node_before a b ≡ true
before_from a b (inl less) = ap (λ s. s || (next_index b.parent == next_index a.parent && is_lt (scope_order a.scope b.scope))) (lt-ltb (next_index b.parent) (next_index a.parent) less)
before_from a b (inr both) =
    ap₂ (λ s t. nat_lt (next_index b.parent) (next_index a.parent) || (s && t)) (eq-eqb (next_index b.parent) (next_index a.parent) both.0) (ap is_lt both.1) ∙ or_true (nat_lt (next_index b.parent) (next_index a.parent))
  where
    or_true : (b : Bool) → (b || true) ≡ true
    or_true true = refl
    or_true false = refl

turned : (s t : Scope) (o : Ordering) → scope_order s t ≡ o → scope_order t s ≡ ordering_reverse o
turned s t o e = scope_order_total.antisymm t s ∙ ap ordering_reverse e

asym : (a b : Node) → node_before a b ≡ true → node_before b a ≡ true → ⊥
asym a b e f =
    elim (before_of a b e) [
      | inl less ↦ elim (before_of b a f) [ inl more ↦ omega arith | inr both ↦ (let same = both.0 in omega arith) ]
      | inr two ↦ (let same = two.0 in elim (before_of b a f) [
        | inl more ↦ omega arith
        | inr both ↦ (let g = sym (turned a.scope b.scope Less two.1) ∙ both.1 in absurd cc)
      ])
    ]

-- what comes before a node comes before what doesn't
pub before_last : (a b c : Node) → node_before a b ≡ true → node_before c b ≡ false → node_before a c ≡ true
before_last a b c e f =
    let not : Before c b → ⊥ = λ g. true≢false (sym (before_from c b g) ∙ f) in
    elim (cases_order (next_index c.parent) (next_index b.parent)) [
      | inl same ↦ elim (before_of a b e) [
        | inl less ↦ before_from a c (inl (omega arith))
        | inr both ↦ before_from a c (inr (same ∙ both.0, beside (scope_order c.scope b.scope) refl both.1 (λ g. not (inr (sym same, g)))))
      ]
      | inr (inl less) ↦ elim (before_of a b e) [
        | inl more ↦ before_from a c (inl (omega arith))
        | inr both ↦ (let same = both.0 in before_from a c (inl (omega arith)))
      ]
      | inr (inr more) ↦ absurd (not (inl more))
    ]
  where
    beside : (o : Ordering) → scope_order c.scope b.scope ≡ o → scope_order a.scope b.scope ≡ Less → (scope_order c.scope b.scope ≡ Less → ⊥) → scope_order a.scope c.scope ≡ Less
    beside Less is less apart = absurd (apart is)
    beside Equal is less apart = subst (λ (s : Scope). scope_order a.scope s ≡ Less) (sym (scope_order_tells c.scope b.scope is)) less
    beside Greater is less apart = scope_order_total.trans a.scope b.scope c.scope less (turned c.scope b.scope Greater is)

pub before_itself : (a : Node) → node_before a a ≡ false
before_itself a = elim (node_before a a) as (λ b. node_before a a ≡ b → node_before a a ≡ false) [ true ↦ λ e. absurd (asym a a e e) | false ↦ λ e. e ] refl

-- what comes before no node comes before none that is earlier
pub none_earlier : (h n f : Node) → node_before n f ≡ true → node_before h f ≡ false → node_before h n ≡ false
none_earlier h n f e g =
    elim (node_before h n) as (λ b. node_before h n ≡ b → node_before h n ≡ false) [ true ↦ λ k. absurd (asym h n k (before_last n f h e g)) | false ↦ λ k. k ] refl

-- ---- their paths

-- the index right after a node's
next_of_node : (p : ℕ) → p < no_parent → next_index p ≡ p + 1
next_of_node p lt = mod-eq_of_lt (omega arith)

-- the path of a node
path_of_node : (paths : List Path) (p : ℕ) → p < no_parent → path_at paths p ≡ path_or_none paths p
path_of_node paths p lt = ap (λ b. cond b [] (path_or_none paths p)) (ne_eqb p no_parent (λ e. absurd (omega arith)))

-- a node that is next, and its path
pub record Next (order : List Node) (n : Node) (own : Path) : Type 0 where
  pub index : IsIndex n.parent (length order)
  pub path : path_below (tree_paths order) n ≡ own
  pub ahead : (i : ℕ) → i < length order → path_order (path_or_none (tree_paths order) i) own ≡ Less

module _ (order : List Node) (ascend : AllPairs (λ a b. path_order a b ≡ Less) (tree_paths order)) (some : (i : ℕ) → i < length order → path_or_none (tree_paths order) i ≡ [] → ⊥) (few : length order < no_parent) where
  abbrev done : List Path
  done = tree_paths order

  place_is : (p : ℕ) → IsIndex p (length order) → ((p ≡ no_parent) × (next_index p ≡ 0)) ⊎ ((p < length order) × (next_index p ≡ p + 1))
  place_is p index = elim (place_cases p (length order) index) [ inl e ↦ inl (e, ap next_index e) | inr lt ↦ inr (lt, next_of_node p (omega arith)) ]

  same_index : (p q : ℕ) → IsIndex p (length order) → IsIndex q (length order) → next_index p ≡ next_index q → p ≡ q
  same_index p q p_place q_place e =
      elim (place_is p p_place) [
        | inl x ↦ elim (place_is q q_place) [ inl y ↦ x.0 ∙ sym y.0 | inr y ↦ (let a = x.1 in let b = y.1 in absurd (omega arith)) ]
        | inr x ↦ elim (place_is q q_place) [ inl y ↦ (let a = x.1 in let b = y.1 in absurd (omega arith)) | inr y ↦ (let a = x.1 in let b = y.1 in omega arith) ]
      ]

  module _ (a b : Node) (a_path b_path : Path) (a_next : Next order a a_path) (b_next : Next order b b_path) where
    parent_up : a.parent < length order → next_index a.parent ≡ a.parent + 1 → next_index b.parent < next_index a.parent → path_order (path_at done b.parent) (path_or_none done a.parent) ≡ Less
    parent_up lt next less =
        elim (place_is b.parent b_next.index) [
          | inl root ↦ ap (λ (x : Path). path_order x (path_or_none done a.parent)) (path_none done b.parent root.0) ∙ from_none (path_or_none done a.parent) (some a.parent lt)
          | inr inner ↦
              let inner_lt = inner.0 in let inner_next = inner.1 in
              ap (λ (x : Path). path_order x (path_or_none done a.parent)) (path_of_node done b.parent (omega arith)) ∙ ascend b.parent a.parent [] (omega arith) (let long = as_many_paths order in omega arith)
        ]
      where
        from_none : (x : Path) → (x ≡ [] → ⊥) → path_order [] x ≡ Less
        from_none [] apart = absurd (apart refl)
        from_none (s ∷ x) apart = refl

    deeper : next_index b.parent < next_index a.parent → path_order a_path b_path ≡ Less
    deeper less =
        elim (place_is a.parent a_next.index) [
          | inl root ↦ (let none = root.1 in absurd (omega arith))
          | inr inner ↦
              let lt = inner.0 in
              parts_less a_path b_path (parts_same a_path b_path (path_or_none done a.parent ++ a.scope ∷ []) (path_at done b.parent ++ b.scope ∷ [])
              (sym a_next.path ∙ ap (λ (x : Path). x ++ a.scope ∷ []) (path_of_node done a.parent (omega arith))) (sym b_next.path)
              (between (path_at done b.parent) (path_or_none done a.parent) b.scope (a.scope ∷ []) (parent_up lt inner.1 less) (ap (path_order (path_or_none done a.parent)) b_next.path ∙ b_next.ahead a.parent lt)))
        ]

    beside : next_index b.parent ≡ next_index a.parent → scope_order a.scope b.scope ≡ Less → path_order a_path b_path ≡ Less
    beside same less =
        let parents : b.parent ≡ a.parent = same_index b.parent a.parent b_next.index a_next.index same in
        parts_less a_path b_path (parts_same a_path b_path (path_at done a.parent ++ a.scope ∷ []) (path_at done a.parent ++ b.scope ∷ [])
        (sym a_next.path) (sym b_next.path ∙ ap (λ (p : ℕ). path_at done p ++ b.scope ∷ []) parents) (siblings_part (path_at done a.parent) a.scope b.scope less))

    pub leads : node_before a b ≡ true → path_order a_path b_path ≡ Less
    leads e = elim (before_of a b e) [ inl less ↦ deeper less | inr both ↦ beside both.0 both.1 ]

    pub first_of_two : node_before b a ≡ false → (b ≡ a → ⊥) → node_before a b ≡ true
    first_of_two last apart =
        let not : Before b a → ⊥ = λ g. true≢false (sym (before_from b a g) ∙ last) in
        elim (cases_order (next_index b.parent) (next_index a.parent)) [
          | inl same ↦ scopes (scope_order a.scope b.scope) refl same not
          | inr (inl less) ↦ before_from a b (inl less)
          | inr (inr more) ↦ absurd (not (inl more))
        ]
      where
        scopes : (o : Ordering) → scope_order a.scope b.scope ≡ o → next_index b.parent ≡ next_index a.parent → (Before b a → ⊥) → node_before a b ≡ true
        scopes Less is same not = before_from a b (inr (same, is))
        scopes Equal is same not =
            absurd (apart (ap₂ (λ (p : ℕ) (s : Scope). node_with p s) (same_index b.parent a.parent b_next.index a_next.index same) (sym (scope_order_tells a.scope b.scope is))))
        scopes Greater is same not = absurd (not (inr (sym same, turned a.scope b.scope Greater is)))
