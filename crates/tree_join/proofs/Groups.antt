-- Siblings in order, and the children of a node among them.
use Rattle.std.proofs.Common.{◌≡◌, ℕ, zero, suc, ◌+◌, ◌-◌, ◌<◌, ◌≤◌, ◌==◌, nat_lt, inl, inr, Bool, true, false, cond, List, [], ◌∷◌, ◌++◌, length, get_or, set, map, reverse, All, AllPairs, Contains, Less, Equal, Greater, Ordering, Result, Ok, Err, OnOk, refl, sym, ap, ap₂, subst, ◌∙◌, arith, true≢false}
use Rattle.std.specs.Cmp.{IsTotalOrder}
use Rattle.std.specs.List.{IsDistinct}
use Rattle.std.specs.List.Sorted.{IsSorted, IsPermutation}
use Rattle.std.specs.Ordering.{nat_cmp, is_lt, ordering_then, ordering_reverse}
use Rattle.std.proofs.lemmas.Bool.{cases_eq, cases_lt, eq-eqb, ne_eqb, le-ltb}
use Rattle.std.proofs.lemmas.Bool.Decides.{eqb_tells}
use Rattle.std.proofs.lemmas.Cmp.{then_total, nat_cmp_total}
use Rattle.std.specs.Cmp.{on_total}
use Rattle.std.proofs.lemmas.List.{append_assoc, get_or-map, get_or_default, get_or-set_same, get_or-set_other, length-map, length-set, length-reverse, get_or-reverse}
use Rattle.std.proofs.lemmas.List.Elements.{All-nil, All-cons, All-head, All-get_or, All-weaker}
use Rattle.std.proofs.lemmas.List.Kept.{AllPairs-cons}
use Rattle.std.proofs.lemmas.List.MinMax.{ranks_by}
use Rattle.std.proofs.lemmas.List.Sorted.{sorted_far, Contains-permutation, All-permutation, IsPermutation-refl, IsPermutation-reverse}
use Rattle.std.proofs.lemmas.Option.{slice_get-get_or}
use Rattle.std.proofs.lemmas.Map.Keys.{IsDistinct-from_apart, IsDistinct-IsPermutation, apart_from_distinct}
use Rattle.scope_types.specs.declared.scope.Scope.{Scope}
use Rattle.scope_types.specs.Limits.{most_scopes_in_all}
use Rattle.scope_types.specs.Order.{scope_order}
use Rattle.scope_types.proofs.Orders.{scope_order_total, scope_order_tells}
use Rattle.tree_types.specs.declared.content.Node.{Node}
use Rattle.tree_types.specs.Nodes.{no_parent}
use Rattle.tree_types.specs.PathsOf.{tree_paths}
use Rattle.path_trie.specs.Trie.{IsIndex, StandBefore, path_at}
use Rattle.path_trie.specs.private.Linked.{linked_node, next_index, no_node}
use Rattle.path_trie.proofs.Places.{place_cases, next_of}
use Rattle.tree_join.specs.declared.children.Sibling.{Sibling}
use Rattle.tree_join.specs.private.Children.{slot_at, sibling_at, siblings_below, siblings_from, first_index, sibling_order, Chains, Chained, SortedChildren, AreChildren, indices_down}
use Rattle.tree_join.specs.private.Walk.{path_or_none, AreNodes}
use Rattle.tree_join.proofs.Walking.{kid_path}

-- ---- the order of siblings

sibling_order_total : IsTotalOrder sibling_order
sibling_order_total = then_total (on_total (λ (s : Sibling). s.scope) scope_order_total) (on_total (λ (s : Sibling). s.index) nat_cmp_total)

pub nat_equal : (a b : ℕ) → nat_cmp a b ≡ Equal → a ≡ b
nat_equal a b e =
    elim (cases_eq a b) [
      | inl is ↦ is
      | inr apart ↦ elim (nat_lt a b) as (λ t. cond t Less (cond (a == b) Equal Greater) ≡ Equal → a ≡ b) [
        | true ↦ λ f. absurd cc
        | false ↦ λ f. (let not_same : (a == b) ≡ false = ne_eqb a b apart in let two : Greater ≡ Equal = sym (ap (λ t. cond t Equal Greater) not_same) ∙ f in absurd cc)
      ] e
    ]

nat_same : (a : ℕ) → nat_cmp a a ≡ Equal
nat_same a = ap (λ t. cond t Less (cond (a == a) Equal Greater)) (le-ltb a a (omega arith)) ∙ ap (λ t. cond t Equal Greater) (eq-eqb a a refl)

second_equal : (a b : Ordering) → ordering_then a b ≡ Equal → b ≡ Equal
second_equal Less b e = absurd cc
second_equal Equal b e = e
second_equal Greater b e = absurd cc

tied_place : (a b : Sibling) → sibling_order a b ≡ Equal → a.index ≡ b.index
tied_place a b e = nat_equal a.index b.index (second_equal (scope_order a.scope b.scope) (nat_cmp a.index b.index) e)

-- ---- the siblings below an index

abbrev same_index : Sibling → Sibling → Bool
same_index a b = a.index == b.index

same_slot : (a b : ℕ) → (a == b) ≡ true → a ≡ b
same_slot a b e = elim (eqb_tells a b) as (λ _. a ≡ b) [ inl is ↦ is.1 | inr apart ↦ absurd (true≢false (sym e ∙ apart.0)) ]

flips : (a b : Sibling) → same_index a b ≡ same_index b a
flips a b = elim (cases_eq a.index b.index) [ inl is ↦ eq-eqb a.index b.index is ∙ sym (eq-eqb b.index a.index (sym is)) | inr apart ↦ ne_eqb a.index b.index apart ∙ sym (ne_eqb b.index a.index (λ e. apart (sym e))) ]

sorted_up : (xs : List Sibling) → IsSorted sibling_order xs → IsDistinct same_index xs → AllPairs (λ a b. sibling_order a b ≡ Less) xs
sorted_up xs up distinct i j d below lt =
    let a : Sibling = get_or xs i d in
    let b : Sibling = get_or xs j d in
    let not_less : is_lt (sibling_order b a) ≡ false = sorted_far (λ x y. is_lt (sibling_order x y)) (ranks_by sibling_order_total (λ (s : Sibling). s)) xs up i j d (omega arith) lt in
    let apart : same_index a b ≡ false = apart_from_distinct same_index xs i j d distinct below lt in
    elim (sibling_order a b) as (λ o. sibling_order a b ≡ o → o ≡ Less) [
      | Less ↦ λ e. refl
      | Equal ↦ λ e. (let two : true ≡ false = sym (eq-eqb a.index b.index (tied_place a b e)) ∙ apart in absurd (true≢false two))
      | Greater ↦ λ e. (let less : sibling_order b a ≡ Less = sibling_order_total.antisymm b a ∙ ap ordering_reverse e in absurd (true≢false (sym (ap is_lt less) ∙ not_less)))
    ] refl

module _ (nodes : List Node) where
  abbrev next : ℕ → ℕ → List Sibling
  next slot k = sibling_at nodes k ∷ siblings_below nodes slot k

  below_on : (slot k : ℕ) → slot_at nodes k ≡ slot → siblings_below nodes slot (suc k) ≡ next slot k
  below_on slot k is = ap (λ b. cond b (next slot k) (siblings_below nodes slot k)) (eq-eqb (slot_at nodes k) slot is)

  below_off : (slot k : ℕ) → (slot_at nodes k ≡ slot → ⊥) → siblings_below nodes slot (suc k) ≡ siblings_below nodes slot k
  below_off slot k apart = ap (λ b. cond b (next slot k) (siblings_below nodes slot k)) (ne_eqb (slot_at nodes k) slot apart)

  below_has : (slot k i : ℕ) → i < k → slot_at nodes i ≡ slot → Contains (siblings_below nodes slot k) (sibling_at nodes i)
  below_has slot zero i lt on = absurd (omega arith)
  below_has slot (suc k) i lt on =
      elim (cases_lt i k) [
        | inl less ↦
            let rest = below_has slot k i less on in
            elim (slot_at nodes k == slot) as (λ b. Contains (cond b (next slot k) (siblings_below nodes slot k)) (sibling_at nodes i)) [
              | true ↦ (suc rest.0, (let lt = rest.1 in omega arith), rest.2)
              | false ↦ rest
            ]
        | inr le ↦
            let is : k ≡ i = omega arith in
            subst (λ (xs : List Sibling). Contains xs (sibling_at nodes i)) (sym (below_on slot k (ap (slot_at nodes) is ∙ on))) (0, omega arith, ap (sibling_at nodes) is)
      ]

  abbrev pub IsLow : ℕ → ℕ → Sibling → Type 0
  IsLow slot k s = (s.index < k) × ((slot_at nodes s.index ≡ slot) × (s ≡ sibling_at nodes s.index))

  below_only : (slot k : ℕ) → All (IsLow slot k) (siblings_below nodes slot k)
  below_only slot zero = All-nil (IsLow slot 0)
  below_only slot (suc k) =
      let rest = All-weaker (IsLow slot k) (IsLow slot (suc k)) (λ s low. ((let lt = low.0 in omega arith), low.1)) (siblings_below nodes slot k) (below_only slot k) in
      elim (slot_at nodes k == slot) as (λ b. (slot_at nodes k == slot) ≡ b → All (IsLow slot (suc k)) (cond b (next slot k) (siblings_below nodes slot k))) [
        | true ↦ λ e. All-cons (IsLow slot (suc k)) (sibling_at nodes k) (siblings_below nodes slot k) (omega arith, (same_slot (slot_at nodes k) slot e, refl)) rest
        | false ↦ λ e. rest
      ] refl

  below_down : (slot k : ℕ) → AllPairs (λ a b. b.index < a.index) (siblings_below nodes slot k)
  below_down slot zero = λ i j d below lt. absurd (omega arith)
  below_down slot (suc k) =
      elim (slot_at nodes k == slot) as (λ b. AllPairs (λ a b. b.index < a.index) (cond b (next slot k) (siblings_below nodes slot k))) [
        | true ↦ AllPairs-cons (λ a b. b.index < a.index) (sibling_at nodes k) (siblings_below nodes slot k) (All-weaker (IsLow slot k) (λ s. s.index < k) (λ s low. low.0) (siblings_below nodes slot k) (below_only slot k)) (below_down slot k)
        | false ↦ below_down slot k
      ]

  below_distinct : (slot k : ℕ) → IsDistinct same_index (siblings_below nodes slot k)
  below_distinct slot k =
      let xs : List Sibling = siblings_below nodes slot k in
      IsDistinct-from_apart same_index xs (λ i j d below lt. ne_eqb (get_or xs i d).index (get_or xs j d).index (λ e. (let less = below_down slot k i j d below lt in absurd (omega arith))))

  -- ---- lists of siblings, from node to node

  pub from_first : (slot k : ℕ) → k ≤ most_scopes_in_all → siblings_below nodes slot k ≡ siblings_from nodes (first_index (siblings_below nodes slot k))
  from_first slot zero few = refl
  from_first slot (suc k) few =
      elim (cases_eq (slot_at nodes k) slot) [
        | inl is ↦
            let here = below_on slot k is in
            let from : siblings_from nodes k ≡ next slot k = ap (λ b. cond b [] (next (slot_at nodes k) k)) (ne_eqb k no_parent (λ e. absurd (omega arith))) ∙ ap (λ (s : ℕ). next s k) is in
            here ∙ sym from ∙ ap (λ (xs : List Sibling). siblings_from nodes (first_index xs)) (sym here)
        | inr apart ↦
            let off = below_off slot k apart in
            off ∙ from_first slot k (omega arith) ∙ ap (λ (xs : List Sibling). siblings_from nodes (first_index xs)) (sym off)
      ]

  pub first_in : (slot k : ℕ) → IsIndex (first_index (siblings_below nodes slot k)) k
  first_in slot k = by_list (siblings_below nodes slot k) (below_only slot k)
    where
      by_list : (xs : List Sibling) → All (IsLow slot k) xs → IsIndex (first_index xs) k
      by_list [] all none = absurd (none refl)
      by_list (x ∷ xs) all some = (All-head (IsLow slot k) x xs all).0

  module _ (lasts previous : List ℕ) (k : ℕ) (chains : Chains nodes lasts previous k) where
    -- one more node
    pub chains_step : k < length nodes → slot_at nodes k ≤ length nodes
        → Chains nodes (set lasts (slot_at nodes k) k) (set previous k (get_or lasts (slot_at nodes k) no_parent)) (suc k)
    chains_step lt le =
        let own : ℕ = slot_at nodes k in
        let value : ℕ = get_or lasts own no_parent in
        record {
          slots = length-set lasts own k ∙ chains.slots;
          long = length-set previous k value ∙ chains.long;
          last = λ slot slot_le. elim (cases_eq own slot) [
            | inl is ↦ ap (λ (s : ℕ). get_or (set lasts own k) s no_parent) (sym is) ∙ get_or-set_same lasts own k no_parent (let many = chains.slots in omega arith) ∙ sym (ap first_index (below_on slot k is))
            | inr apart ↦ get_or-set_other lasts own slot k no_parent (λ e. apart (sym e)) ∙ chains.last slot slot_le ∙ sym (ap first_index (below_off slot k apart))
          ];
          before = λ i i_lt. elim (cases_lt i k) [
            | inl less ↦ get_or-set_other previous k i value no_parent (λ e. absurd (omega arith)) ∙ chains.before i less
            | inr at ↦
                let is : k ≡ i = omega arith in
                subst (λ (j : ℕ). get_or (set previous k value) j no_parent ≡ first_index (siblings_below nodes (slot_at nodes j) j)) is
                (get_or-set_same previous k value no_parent (let many = chains.long in omega arith) ∙ chains.last own le)
          ];
        }

  module _ (lasts previous : List ℕ) (chained : Chained nodes lasts previous) (few : length nodes ≤ most_scopes_in_all) where
    -- a node and the siblings before it
    pub from_node : (i : ℕ) → i < length nodes → siblings_from nodes i ≡ sibling_at nodes i ∷ siblings_from nodes (get_or previous i no_parent)
    from_node i lt =
        ap (λ b. cond b [] (next (slot_at nodes i) i)) (ne_eqb i no_parent (λ e. absurd (omega arith)))
        ∙ ap (λ (xs : List Sibling). sibling_at nodes i ∷ xs) (from_first (slot_at nodes i) i (omega arith) ∙ ap (siblings_from nodes) (sym (chained.before i lt)))

    pub previous_in : (i : ℕ) → i < length nodes → IsIndex (get_or previous i no_parent) (length nodes)
    previous_in i lt = subst (λ (j : ℕ). IsIndex j (length nodes)) (sym (chained.before i lt)) (λ some. (let less = first_in (slot_at nodes i) i some in omega arith))

    pub last_in : (slot : ℕ) → slot ≤ length nodes → IsIndex (get_or lasts slot no_parent) (length nodes)
    last_in slot le = subst (λ (j : ℕ). IsIndex j (length nodes)) (sym (chained.last slot le)) (first_in slot (length nodes))

    pub from_last : (slot : ℕ) → slot ≤ length nodes → siblings_below nodes slot (length nodes) ≡ siblings_from nodes (get_or lasts slot no_parent)
    from_last slot le = from_first slot (length nodes) few ∙ ap (siblings_from nodes) (sym (chained.last slot le))

-- ---- what the loops leave

pub slot_in : (p n : ℕ) → IsIndex p n → n ≤ most_scopes_in_all → next_index p ≤ n
slot_in p n place few =
    elim (place_cases p n place) [
      | inl none ↦ subst (λ (q : ℕ). next_index q ≤ n) (sym none) (omega arith)
      | inr less ↦ (let is = next_of p (omega arith) in omega arith)
    ]

value_at : (xs : List ℕ) (i v : ℕ) → i < length xs → v ≡ get_or xs i v → v ≡ get_or xs i no_parent
value_at xs i v lt read = read ∙ get_or_default xs i v no_parent lt

module _ (nodes : List Node) (lasts previous : List ℕ) where
  pub chains_next : (k value : ℕ) (d : Node) → Chains nodes lasts previous k → StandBefore nodes → length nodes ≤ most_scopes_in_all → k < length nodes
      → value ≡ get_or lasts (next_index (get_or nodes k d).parent) value
      → Chains nodes (set lasts (next_index (get_or nodes k d).parent) k) (set previous k value) (k + 1)
  chains_next k value d chains before few lt read =
      let own : get_or nodes k d ≡ linked_node nodes k = get_or_default nodes k d no_node lt in
      let place : IsIndex (linked_node nodes k).parent k = before k (linked_node nodes k) (slice_get-get_or nodes k no_node lt) in
      let low = slot_in (linked_node nodes k).parent k place (omega arith) in
      let at : next_index (get_or nodes k d).parent ≡ slot_at nodes k = ap (λ (n : Node). next_index n.parent) own in
      let value_is : value ≡ get_or lasts (next_index (get_or nodes k d).parent) no_parent = value_at lasts (next_index (get_or nodes k d).parent) value (let many = chains.slots in omega arith) read in
      let next : Chains nodes (set lasts (slot_at nodes k) k) (set previous k (get_or lasts (slot_at nodes k) no_parent)) (suc k) = chains_step nodes lasts previous k chains lt (omega arith) in
      let more : suc k ≡ k + 1 = omega arith in
      subst (Chains nodes (set lasts (next_index (get_or nodes k d).parent) k) (set previous k value)) more
      (subst (λ (v : ℕ). Chains nodes (set lasts (next_index (get_or nodes k d).parent) k) (set previous k v) (suc k)) (sym value_is)
      (subst (λ (n : Node). Chains nodes (set lasts (next_index n.parent) k) (set previous k (get_or lasts (next_index n.parent) no_parent)) (suc k)) (sym own) next))

  module _ (chained : Chained nodes lasts previous) (few : length nodes ≤ most_scopes_in_all) (i value : ℕ) (lt : i < length nodes) (read : value ≡ get_or previous i value) where
    value_is : value ≡ get_or previous i no_parent
    value_is = value_at previous i value (let many = chained.long in omega arith) read

    pub then_fewer : length (siblings_from nodes value) < length (siblings_from nodes i)
    then_fewer =
        let one_more : length (siblings_from nodes i) ≡ suc (length (siblings_from nodes (get_or previous i no_parent))) = ap (λ (xs : List Sibling). length xs) (from_node nodes lasts previous chained few i lt) in
        let same : length (siblings_from nodes value) ≡ length (siblings_from nodes (get_or previous i no_parent)) = ap (λ (j : ℕ). length (siblings_from nodes j)) value_is in
        omega arith

    pub then_index : IsIndex value (length nodes)
    then_index = subst (λ (j : ℕ). IsIndex j (length nodes)) (sym value_is) (previous_in nodes lasts previous chained few i lt)

    pub then_gathered : (done more all : List Sibling) (d : Node) → more ≡ done ++ (record { scope = (get_or nodes i d).scope; index = i }) ∷ [] → done ++ siblings_from nodes i ≡ all → more ++ siblings_from nodes value ≡ all
    then_gathered done more all d more_is gathered =
        let node : get_or nodes i d ≡ linked_node nodes i = get_or_default nodes i d no_node lt in
        let pushed : more ≡ done ++ sibling_at nodes i ∷ [] = more_is ∙ ap (λ (n : Node). done ++ (record { scope = n.scope; index = i }) ∷ []) node in
        let rest : siblings_from nodes i ≡ sibling_at nodes i ∷ siblings_from nodes value = from_node nodes lasts previous chained few i lt ∙ ap (λ (j : ℕ). sibling_at nodes i ∷ siblings_from nodes j) (sym value_is) in
        ap (λ (xs : List Sibling). xs ++ siblings_from nodes value) pushed ∙ append_assoc done (sibling_at nodes i ∷ []) (siblings_from nodes value) ∙ ap (λ (xs : List Sibling). done ++ xs) (sym rest) ∙ gathered

    pub only_one : value ≡ no_parent → siblings_from nodes i ≡ sibling_at nodes i ∷ []
    only_one none = from_node nodes lasts previous chained few i lt ∙ ap (λ (j : ℕ). sibling_at nodes i ∷ siblings_from nodes j) (sym value_is ∙ none)

  module _ (chained : Chained nodes lasts previous) (few : length nodes ≤ most_scopes_in_all) (p last : ℕ) (index : IsIndex p (length nodes)) (read : last ≡ get_or lasts (next_index p) last) where
    last_is : last ≡ get_or lasts (next_index p) no_parent
    last_is = value_at lasts (next_index p) last (let many = chained.slots in let low = slot_in p (length nodes) index few in omega arith) read

    pub last_index : IsIndex last (length nodes)
    last_index = subst (λ (j : ℕ). IsIndex j (length nodes)) (sym last_is) (last_in nodes lasts previous chained few (next_index p) (slot_in p (length nodes) index few))

    pub children_from : (group : List Sibling) → IsPermutation (siblings_from nodes last) group → IsSorted sibling_order group → SortedChildren nodes p (indices_down group)
    children_from group moved sorted = record {
      group = group;
      moved = subst (λ (xs : List Sibling). IsPermutation xs group) (sym (from_last nodes lasts previous chained few (next_index p) (slot_in p (length nodes) index few) ∙ ap (siblings_from nodes) (sym last_is))) moved;
      sorted = sorted;
      kids_are = refl;
    }

    pub only_child : siblings_from nodes last ≡ sibling_at nodes last ∷ [] → SortedChildren nodes p (last ∷ [])
    only_child one = children_from (sibling_at nodes last ∷ []) (subst (λ (xs : List Sibling). IsPermutation xs (sibling_at nodes last ∷ [])) (sym one) (IsPermutation-refl (sibling_at nodes last ∷ []))) (λ k d low lt. absurd (omega arith))

    -- what is gathered and sorted is pushed
    pub pushed_children : (gathered sorted lent : List Sibling) → gathered ≡ siblings_from nodes last → IsPermutation gathered sorted → IsSorted sibling_order sorted → lent ≡ sorted
        → {E : Type 0} (r : Result (Unit {0}) E) (old new : List ℕ) → OnOk r (new ≡ old ++ indices_down lent)
        → OnOk r ((x : List ℕ) × SortedChildren nodes p x × (new ≡ old ++ x))
    pushed_children gathered sorted lent gathered_is moved up lent_is (Ok _) old new is =
        (indices_down sorted, children_from sorted (subst (λ (xs : List Sibling). IsPermutation xs sorted) gathered_is moved) up, is ∙ ap (λ (xs : List Sibling). old ++ indices_down xs) lent_is)
    pushed_children gathered sorted lent gathered_is moved up lent_is (Err _) old new is = is

-- ---- lists

abbrev index_of : Sibling → ℕ
index_of s = s.index

map_has : (xs : List Sibling) (x : Sibling) → Contains xs x → Contains (map index_of xs) x.index
map_has xs x has = (has.0, (let lt = has.1 in omega (arith, length-map xs index_of)), get_or-map index_of xs has.0 x x.index has.1 ∙ ap index_of has.2)

-- ---- children

next_once : (p q n : ℕ) → IsIndex p n → IsIndex q n → n ≤ most_scopes_in_all → next_index p ≡ next_index q → p ≡ q
next_once p q n p_place q_place few same =
    elim (place_cases p n p_place) [
      | inl p_none ↦ elim (place_cases q n q_place) [
        | inl q_none ↦ p_none ∙ sym q_none
        | inr q_less ↦ (let a : next_index p ≡ 0 = ap next_index p_none in let b = next_of q (omega arith) in absurd (omega arith))
      ]
      | inr p_less ↦ elim (place_cases q n q_place) [
        | inl q_none ↦ (let a : next_index q ≡ 0 = ap next_index q_none in let b = next_of p (omega arith) in absurd (omega arith))
        | inr q_less ↦ (let a = next_of p (omega arith) in let b = next_of q (omega arith) in omega arith)
      ]
    ]

module _ (nodes : List Node) (are : AreNodes nodes) (p : ℕ) (index : IsIndex p (length nodes)) (kids : List ℕ) (found : SortedChildren nodes p kids) where
  abbrev slot : ℕ
  slot = next_index p

  wider : (i : ℕ) → i < length nodes → IsIndex (linked_node nodes i).parent (length nodes)
  wider i lt inner = (let less = are.rooted.before i lt inner in omega arith)

  abbrev all : List Sibling
  all = siblings_below nodes slot (length nodes)

  abbrev group : List Sibling
  group = found.group

  abbrev IsChild : Sibling → Type 0
  IsChild s = ((s.index < length nodes) × ((linked_node nodes s.index).parent ≡ p)) × (s ≡ sibling_at nodes s.index)

  group_is : All IsChild group
  group_is =
      All-permutation IsChild all group found.moved
      (All-weaker (IsLow nodes slot (length nodes)) IsChild
      (λ s low. ((low.0, next_once (linked_node nodes s.index).parent p (length nodes) (wider s.index low.0) index are.few low.1.0), low.1.1))
      all (below_only nodes slot (length nodes)))

  group_up : AllPairs (λ a b. sibling_order a b ≡ Less) group
  group_up = sorted_up group found.sorted (IsDistinct-IsPermutation same_index flips all group found.moved (below_distinct nodes slot (length nodes)))

  scopes_up : (a b : Sibling) → IsChild a → IsChild b → sibling_order a b ≡ Less → scope_order (linked_node nodes a.index).scope (linked_node nodes b.index).scope ≡ Less
  scopes_up a b a_is b_is less =
      let same : scope_order a.scope b.scope ≡ scope_order (linked_node nodes a.index).scope (linked_node nodes b.index).scope = ap₂ (λ (x y : Sibling). scope_order x.scope y.scope) a_is.1 b_is.1 in
      sym same ∙ elim (scope_order a.scope b.scope) as (λ o. scope_order a.scope b.scope ≡ o → ordering_then o (nat_cmp a.index b.index) ≡ Less → o ≡ Less) [
        | Less ↦ λ e f. refl
        | Equal ↦ λ e f.
            let scopes : (linked_node nodes a.index).scope ≡ (linked_node nodes b.index).scope = scope_order_tells (linked_node nodes a.index).scope (linked_node nodes b.index).scope (sym same ∙ e) in
            let paths : path_or_none (tree_paths nodes) a.index ≡ path_or_none (tree_paths nodes) b.index =
            kid_path nodes are a.index p a_is.0.0 a_is.0.1 ∙ ap (λ (s : Scope). path_at (tree_paths nodes) p ++ s ∷ []) scopes ∙ sym (kid_path nodes are b.index p b_is.0.0 b_is.0.1) in
            let one : a.index ≡ b.index = are.rooted.once a.index b.index a_is.0.0 b_is.0.0 paths in
            let tie : Equal ≡ Less = sym (ap (nat_cmp a.index) (sym one) ∙ nat_same a.index) ∙ f in absurd cc
        | Greater ↦ λ e f. absurd cc
      ] refl less

  abbrev down : List ℕ
  down = indices_down group

  down_long : length down ≡ length group
  down_long = length-map (reverse group) index_of ∙ length-reverse group

  down_at : (i d : ℕ) → i < length down → get_or down i d ≡ (get_or group (length group - 1 - i) (sibling_at nodes 0)).index
  down_at i d lt =
      let z : Sibling = sibling_at nodes 0 in
      get_or-map index_of (reverse group) i z d (omega (arith, length-map (reverse group) index_of))
      ∙ ap index_of (get_or-reverse group i z (let long = down_long in omega arith))

  down_is : (i d : ℕ) → i < length down → (get_or down i d < length nodes) × ((linked_node nodes (get_or down i d)).parent ≡ p)
  down_is i d lt =
      let z : Sibling = sibling_at nodes 0 in
      subst (λ (k : ℕ). (k < length nodes) × ((linked_node nodes k).parent ≡ p)) (sym (down_at i d lt))
      (All-get_or IsChild group (length group - 1 - i) z (let long = down_long in omega arith) group_is).0

  pub children_are : AreChildren nodes p kids
  children_are = subst (AreChildren nodes p) (sym found.kids_are) (record {
    only = down_is;
    all = λ i lt is.
        let among = below_has nodes slot (length nodes) i lt (ap next_index is) in
        let moved = Contains-permutation all group (sibling_at nodes i) found.moved among in
        map_has (reverse group) (sibling_at nodes i) (Contains-permutation group (reverse group) (sibling_at nodes i) (IsPermutation-reverse group) moved);
    fall = λ i j d below lt.
        let z : Sibling = sibling_at nodes 0 in
        let long = down_long in
        let a : ℕ = length group - 1 - j in
        let b : ℕ = length group - 1 - i in
        let up = group_up a b z (omega arith) (omega arith) in
        ap₂ (λ (x y : ℕ). scope_order (linked_node nodes x).scope (linked_node nodes y).scope) (down_at j d lt) (down_at i d (omega arith))
        ∙ scopes_up (get_or group a z) (get_or group b z) (All-get_or IsChild group a z (omega arith) group_is) (All-get_or IsChild group b z (omega arith) group_is) up;
  })
