-- One node more in order, of a walk over a trie.
use Rattle.std.proofs.Common.{◌≡◌, ℕ, ◌+◌, ◌-◌, ◌<◌, ◌≤◌, ◌≢◌, inl, inr, true, cond, List, [], ◌∷◌, ◌++◌, length, get_or, set, AllPairs, Contains, Less, is_eq, refl, sym, ap, subst, ◌∙◌, arith, append-nil, append_assoc, length-append, get_or-set_same, get_or-set_other}
use Rattle.std.specs.List.{IsDistinct}
use Rattle.std.specs.Ordering.{eq_by_cmp}
use Rattle.std.proofs.Math.ListN.{get_or-append}
use Rattle.std.proofs.Math.Seq.{get_or-append_seam}
use Rattle.std.proofs.lemmas.Bool.{cases_eq, cases_lt, eq-eqb, ne_eqb}
use Rattle.std.proofs.lemmas.Cmp.{eq_by_cmp_equiv}
use Rattle.std.proofs.lemmas.List.{get_or-append-add, get_or-append_right, get_or_default, length-set}
use Rattle.std.proofs.lemmas.List.Elements.{All-get_or}
use Rattle.std.proofs.lemmas.Map.Keys.{IsDistinct-from_apart}
use Rattle.std.proofs.lemmas.Map.Made.{length-le_from_is_member}
use Rattle.scope_types.specs.declared.scope.Scope.{Scope}
use Rattle.scope_types.specs.Limits.{most_scopes_in_all}
use Rattle.scope_types.specs.Order.{path_order}
use Rattle.scope_types.proofs.Orders.{path_order_total, path_order_tells}
use Rattle.tree_types.proofs.Sorting.{Contains-from_has}
use Rattle.tree_types.specs.declared.content.Node.{Node}
use Rattle.tree_types.specs.Nodes.{no_parent}
use Rattle.tree_types.specs.Paths.{Path}
use Rattle.tree_types.specs.PathsOf.{tree_paths, path_below}
use Rattle.tree_types.proofs.PathSteps.{as_many_paths}
use Rattle.path_trie.specs.Trie.{IsIndex, path_at, has_node}
use Rattle.path_trie.specs.private.Linked.{linked_node}
use Rattle.path_trie.proofs.Places.{place_once, path_none, snoc_same, tree_paths_push, has_at, last_cases}
use Rattle.tree_join.specs.private.Children.{AreChildren}
use Rattle.tree_join.specs.private.Walk.{number_given, parent_number_at, renumbered, path_or_none, AreNodes, Parts, IsBelow, Walks}
use Rattle.tree_types.proofs.Parents.{prefix_less}
use Rattle.tree_join.proofs.Parting.{less_longer, parts_less, parts_longer, parts_same, siblings_part}

pub inner_at : (paths : List Path) (p : ℕ) → p ≢ no_parent → path_at paths p ≡ get_or paths p []
inner_at paths p inner = ap (λ b. cond b [] (get_or paths p [])) (ne_eqb p no_parent inner)

-- ---- no more nodes are in order than there are

apart_from_less : (xs : List Path) → AllPairs (λ a b. path_order a b ≡ Less) xs → IsDistinct (eq_by_cmp path_order) xs
apart_from_less xs up = IsDistinct-from_apart (eq_by_cmp path_order) xs (λ i j d below lt. ap is_eq (up i j d below lt))

pub at_index : (xs : List Path) (q : Path) → has_node xs q ≡ true → (i : ℕ) × (i < length xs) × (get_or xs i [] ≡ q)
at_index xs q has =
    let found = Contains-from_has path_order_total path_order_tells q xs has in
    (found.0, found.1, get_or_default xs found.0 [] q found.1 ∙ found.2)

pub has_from : (paths : List Path) (q : Path) → Contains paths q → has_node paths q ≡ true
has_from paths q found = has_at paths found.0 q found.1 (get_or_default paths found.0 [] q found.1 ∙ found.2)

pub count_among : (paths xs : List Path) → AllPairs (λ a b. path_order a b ≡ Less) xs → ((i : ℕ) → i < length xs → Contains paths (get_or xs i [])) → length xs ≤ length paths
count_among paths xs up among =
    length-le_from_is_member (eq_by_cmp_equiv path_order_total) xs paths (apart_from_less xs up)
    (λ q has. let at = at_index xs q has in has_from paths q (subst (Contains paths) at.2 (among at.0 at.1)))

-- ---- the nodes of a trie

module _ (nodes : List Node) (are : AreNodes nodes) where
  abbrev paths : List Path
  paths = tree_paths nodes

  pub kid_path : (k p : ℕ) → k < length nodes → (linked_node nodes k).parent ≡ p → path_or_none paths k ≡ path_at paths p ++ (linked_node nodes k).scope ∷ []
  kid_path k p lt is = are.rooted.below k lt ∙ ap (λ (q : ℕ). path_at paths q ++ (linked_node nodes k).scope ∷ []) is

  own_path : (p : ℕ) → p < length nodes → path_at paths p ≡ path_or_none paths p
  own_path p lt = inner_at paths p (λ e. (let few = are.few in absurd (omega arith)))

  -- the child through which a path goes on
  pub through : (q p : ℕ) (s : Scope) (r : Path) → q < length nodes → IsIndex p (length nodes) → path_or_none paths q ≡ path_at paths p ++ s ∷ r
      → (c : ℕ) × (c < length nodes) × ((linked_node nodes c).parent ≡ p) × IsBelow (path_or_none paths c) (path_or_none paths q)
  through q p s r lt index is =
      let found = are.closed q (path_at paths p) r s lt is in
      let c : ℕ = found.0 in
      let n : Node = linked_node nodes c in
      let parts = snoc_same (path_at paths n.parent) (path_at paths p) n.scope s (sym (are.rooted.below c found.1) ∙ found.2) in
      let wider : IsIndex n.parent (length nodes) = λ inner. (let less = are.rooted.before c found.1 inner in let lt = found.1 in omega arith) in
      let same : n.parent ≡ p = place_once nodes are.rooted are.few n.parent p wider index parts.0 in
      (c, found.1, same, record { rest = r; is = is ∙ sym (append_assoc (path_at paths p) (s ∷ []) r) ∙ ap (λ (x : Path). x ++ r) (sym found.2) })

  -- ---- the node that is next

  module _ (numbers rest : List ℕ) (order : List Node) (p : ℕ) (w : Walks nodes numbers (rest ++ p ∷ []) order) where
    abbrev before : List ℕ
    before = rest ++ p ∷ []

    abbrev done : List Path
    done = tree_paths order

    abbrev own : Path
    own = path_or_none paths p

    abbrev node : Node
    node = linked_node nodes p

    stack_long : length before ≡ length rest + 1
    stack_long = length-append rest (p ∷ [])

    rest_at : (j : ℕ) → j < length rest → get_or before j 0 ≡ get_or rest j 0
    rest_at j lt = get_or-append rest (p ∷ []) 0 j lt

    top_at : get_or before (length rest) 0 ≡ p
    top_at = get_or-append_seam rest p [] 0

    top_in : length rest < length before
    top_in = (let long = stack_long in omega arith)

    pub top_place : p < length nodes
    top_place = subst (λ (q : ℕ). q < length nodes) top_at (w.indices (length rest) top_in)

    top_parent : node.parent ≢ no_parent → number_given numbers node.parent ≢ no_parent
    top_parent = subst (λ (q : ℕ). (linked_node nodes q).parent ≢ no_parent → number_given numbers (linked_node nodes q).parent ≢ no_parent) top_at (w.parents (length rest) top_in)

    pub top_ahead : (i : ℕ) → i < length order → path_order (path_or_none done i) own ≡ Less
    top_ahead i lt = subst (λ (q : ℕ). path_order (path_or_none done i) (path_or_none paths q) ≡ Less) top_at (w.ahead i (length rest) lt top_in)

    done_long : length done ≡ length order
    done_long = as_many_paths order

    -- the node as it is put in order

    abbrev parent_new : ℕ
    parent_new = parent_number_at numbers node.parent

    parent_is : node.parent ≢ no_parent → parent_new ≡ number_given numbers node.parent
    parent_is inner = ap (λ b. cond b no_parent (number_given numbers node.parent)) (ne_eqb node.parent no_parent inner)

    parent_none : node.parent ≡ no_parent → parent_new ≡ no_parent
    parent_none e = ap (λ b. cond b no_parent (number_given numbers node.parent)) (eq-eqb node.parent no_parent e)

    parent_in : node.parent ≢ no_parent → node.parent < length nodes
    parent_in inner = (let less = are.rooted.before p top_place inner in let lt = top_place in omega arith)

    pub parent_place : IsIndex parent_new (length order)
    parent_place apart =
        elim (cases_eq node.parent no_parent) [
          | inl e ↦ absurd (apart (parent_none e))
          | inr inner ↦ subst (λ (n : ℕ). n < length order) (sym (parent_is inner)) (w.numbered node.parent (parent_in inner) (top_parent inner)).0
        ]

    parent_path : path_at done parent_new ≡ path_at paths node.parent
    parent_path =
        elim (cases_eq node.parent no_parent) [
          | inl e ↦ path_none done parent_new (parent_none e) ∙ sym (path_none paths node.parent e)
          | inr inner ↦
              ap (path_at done) (parent_is inner) ∙ inner_at done (number_given numbers node.parent) (top_parent inner)
              ∙ (w.numbered node.parent (parent_in inner) (top_parent inner)).1 ∙ sym (inner_at paths node.parent inner)
        ]

    pub new_path : path_below done (renumbered nodes numbers p) ≡ own
    new_path = ap (λ (x : Path). x ++ node.scope ∷ []) parent_path ∙ sym (are.rooted.below p top_place)

    -- ---- one node more

    module _ (kids : List ℕ) (children : AreChildren nodes p kids) (few : length order ≤ most_scopes_in_all) where
      abbrev after : List ℕ
      after = rest ++ kids

      rest_after : (j : ℕ) → j < length rest → get_or after j 0 ≡ get_or rest j 0
      rest_after j lt = get_or-append rest kids 0 j lt

      abbrev order_new : List Node
      order_new = order ++ renumbered nodes numbers p ∷ []

      done_new : tree_paths order_new ≡ done ++ own ∷ []
      done_new = tree_paths_push order (renumbered nodes numbers p) ∙ ap (λ (x : Path). done ++ x ∷ []) new_path

      order_long : length order_new ≡ length order + 1
      order_long = length-append order (renumbered nodes numbers p ∷ [])

      done_old : (i : ℕ) → i < length order → path_or_none (tree_paths order_new) i ≡ path_or_none done i
      done_old i lt = ap (λ (ps : List Path). get_or ps i []) done_new ∙ get_or-append done (own ∷ []) [] i (let long = done_long in omega arith)

      done_last : (i : ℕ) → i ≡ length order → path_or_none (tree_paths order_new) i ≡ own
      done_last i is = ap (λ (ps : List Path). get_or ps i []) done_new ∙ ap (λ (k : ℕ). get_or (done ++ own ∷ []) k []) (is ∙ sym done_long) ∙ get_or-append_seam done own [] []

      -- its number

      abbrev numbers_new : List ℕ
      numbers_new = set numbers p (length order)

      number_own : number_given numbers_new p ≡ length order
      number_own = get_or-set_same numbers p (length order) no_parent (let long = w.long in let lt = top_place in omega arith)

      number_other : (q : ℕ) → q ≢ p → number_given numbers_new q ≡ number_given numbers q
      number_other q apart = get_or-set_other numbers p q (length order) no_parent apart

      own_number : number_given numbers_new p ≢ no_parent
      own_number e = (let is = number_own in absurd (omega arith))

      still : (q : ℕ) → number_given numbers q ≢ no_parent → number_given numbers_new q ≢ no_parent
      still q set e =
          elim (cases_eq q p) [
            | inl is ↦ own_number (ap (number_given numbers_new) (sym is) ∙ e)
            | inr apart ↦ set (sym (number_other q apart) ∙ e)
          ]

      numbered_new : (q : ℕ) → q < length nodes → number_given numbers_new q ≢ no_parent → (number_given numbers_new q < length order_new) × (path_or_none (tree_paths order_new) (number_given numbers_new q) ≡ path_or_none paths q)
      numbered_new q lt set =
          let long = order_long in
          elim (cases_eq q p) [
            | inl is ↦
                let at : number_given numbers_new q ≡ length order = ap (number_given numbers_new) is ∙ number_own in
                (omega arith, done_last (number_given numbers_new q) at ∙ ap (path_or_none paths) (sym is))
            | inr apart ↦
                let at : number_given numbers_new q ≡ number_given numbers q = number_other q apart in
                let old = w.numbered q lt (λ e. set (at ∙ e)) in
                let less : number_given numbers_new q < length order = subst (λ (n : ℕ). n < length order) (sym at) old.0 in
                (omega arith, done_old (number_given numbers_new q) less ∙ ap (path_or_none done) at ∙ old.1)
          ]

      -- the stack

      after_long : length after ≡ length rest + length kids
      after_long = length-append rest kids

      abbrev kid : ℕ → ℕ
      kid j = get_or kids (j - length rest) 0

      kid_at : (j : ℕ) → length rest ≤ j → get_or after j 0 ≡ kid j
      kid_at j le = get_or-append_right rest kids (length rest) j 0 refl le

      kid_in : (j : ℕ) → length rest ≤ j → j < length after → j - length rest < length kids
      kid_in j le lt = (let long = after_long in omega arith)

      kid_is : (j : ℕ) → length rest ≤ j → j < length after → (kid j < length nodes) × ((linked_node nodes (kid j)).parent ≡ p)
      kid_is j le lt = All-get_or (λ k. (k < length nodes) × ((linked_node nodes k).parent ≡ p)) kids (j - length rest) 0 (kid_in j le lt) children.only

      kid_long : (j : ℕ) → length rest ≤ j → j < length after → path_or_none paths (kid j) ≡ own ++ (linked_node nodes (kid j)).scope ∷ []
      kid_long j le lt = (let is = kid_is j le lt in kid_path (kid j) p is.0 is.1 ∙ ap (λ (x : Path). x ++ (linked_node nodes (kid j)).scope ∷ []) (own_path p top_place))

      places_new : (j : ℕ) → j < length after → get_or after j 0 < length nodes
      places_new j lt =
          elim (cases_lt j (length rest)) [
            | inl less ↦ subst (λ (q : ℕ). q < length nodes) (rest_at j less ∙ sym (rest_after j less)) (w.indices j (let long = stack_long in omega arith))
            | inr le ↦ subst (λ (q : ℕ). q < length nodes) (sym (kid_at j le)) (kid_is j le lt).0
          ]

      parents_new : (j : ℕ) → j < length after → (linked_node nodes (get_or after j 0)).parent ≢ no_parent → number_given numbers_new (linked_node nodes (get_or after j 0)).parent ≢ no_parent
      parents_new j lt =
          let P : ℕ → Type 0 = λ q. (linked_node nodes q).parent ≢ no_parent → number_given numbers_new (linked_node nodes q).parent ≢ no_parent in
          elim (cases_lt j (length rest)) [
            | inl less ↦ subst P (rest_at j less ∙ sym (rest_after j less)) (λ inner. still (linked_node nodes (get_or before j 0)).parent (w.parents j (let long = stack_long in omega arith) inner))
            | inr le ↦ subst P (sym (kid_at j le)) (λ inner e. own_number (ap (number_given numbers_new) (sym (kid_is j le lt).1) ∙ e))
          ]

      -- what is in order comes before a node of the stack
      ahead_rest : (i j : ℕ) → i < length order_new → j < length rest → path_order (path_or_none (tree_paths order_new) i) (path_or_none paths (get_or rest j 0)) ≡ Less
      ahead_rest i j lt less =
          let long = order_long in let stack = stack_long in
          elim (last_cases i (length order) (omega arith)) [
            | inl old ↦
                ap (λ (x : Path). path_order x (path_or_none paths (get_or rest j 0))) (done_old i old)
                ∙ subst (λ (q : ℕ). path_order (path_or_none done i) (path_or_none paths q) ≡ Less) (rest_at j less) (w.ahead i j old (omega arith))
            | inr is ↦
                ap (λ (x : Path). path_order x (path_or_none paths (get_or rest j 0))) (done_last i is)
                ∙ parts_less own (path_or_none paths (get_or rest j 0)) (top_parts j less)
          ]
        where
          top_parts : (j : ℕ) → j < length rest → Parts own (path_or_none paths (get_or rest j 0))
          top_parts j less =
              parts_same own (path_or_none paths (get_or rest j 0)) (path_or_none paths (get_or before (length rest) 0)) (path_or_none paths (get_or before j 0))
              (ap (path_or_none paths) (sym top_at)) (ap (path_or_none paths) (sym (rest_at j less))) (w.apart j (length rest) less top_in)

      ahead_kid : (i j : ℕ) → i < length order_new → length rest ≤ j → j < length after → path_order (path_or_none (tree_paths order_new) i) (path_or_none paths (kid j)) ≡ Less
      ahead_kid i j lt le in_stack =
          let long = order_long in
          let s : Scope = (linked_node nodes (kid j)).scope in
          ap (path_order (path_or_none (tree_paths order_new) i)) (kid_long j le in_stack)
          ∙ elim (last_cases i (length order) (omega arith)) [
            | inl old ↦ ap (λ (x : Path). path_order x (own ++ s ∷ [])) (done_old i old) ∙ less_longer (path_or_none done i) own (s ∷ []) (top_ahead i old)
            | inr is ↦ ap (λ (x : Path). path_order x (own ++ s ∷ [])) (done_last i is) ∙ prefix_less own s []
          ]

      ahead_new : (i j : ℕ) → i < length order_new → j < length after → path_order (path_or_none (tree_paths order_new) i) (path_or_none paths (get_or after j 0)) ≡ Less
      ahead_new i j i_lt j_lt =
          elim (cases_lt j (length rest)) [
            | inl less ↦ ap (λ (q : ℕ). path_order (path_or_none (tree_paths order_new) i) (path_or_none paths q)) (rest_after j less) ∙ ahead_rest i j i_lt less
            | inr le ↦ ap (λ (q : ℕ). path_order (path_or_none (tree_paths order_new) i) (path_or_none paths q)) (kid_at j le) ∙ ahead_kid i j i_lt le j_lt
          ]

      apart_new : (i j : ℕ) → i < j → j < length after → Parts (path_or_none paths (get_or after j 0)) (path_or_none paths (get_or after i 0))
      apart_new i j below lt =
          let stack = stack_long in
          elim (cases_lt j (length rest)) [
            | inl less ↦
                parts_same (path_or_none paths (get_or after j 0)) (path_or_none paths (get_or after i 0)) (path_or_none paths (get_or before j 0)) (path_or_none paths (get_or before i 0))
                (ap (path_or_none paths) (rest_after j less ∙ sym (rest_at j less))) (ap (path_or_none paths) (rest_after i (omega arith) ∙ sym (rest_at i (omega arith)))) (w.apart i j below (omega arith))
            | inr le ↦ elim (cases_lt i (length rest)) [
              | inl less ↦
                  parts_same (path_or_none paths (get_or after j 0)) (path_or_none paths (get_or after i 0)) (own ++ (linked_node nodes (kid j)).scope ∷ []) (path_or_none paths (get_or before i 0))
                  (ap (path_or_none paths) (kid_at j le) ∙ kid_long j le lt) (ap (path_or_none paths) (rest_after i less ∙ sym (rest_at i less)))
                  (parts_longer own (path_or_none paths (get_or before i 0)) ((linked_node nodes (kid j)).scope ∷ [])
                  (parts_same own (path_or_none paths (get_or before i 0)) (path_or_none paths (get_or before (length rest) 0)) (path_or_none paths (get_or before i 0)) (ap (path_or_none paths) (sym top_at)) refl (w.apart i (length rest) less top_in)))
              | inr i_le ↦
                  parts_same (path_or_none paths (get_or after j 0)) (path_or_none paths (get_or after i 0)) (own ++ (linked_node nodes (kid j)).scope ∷ []) (own ++ (linked_node nodes (kid i)).scope ∷ [])
                  (ap (path_or_none paths) (kid_at j le) ∙ kid_long j le lt) (ap (path_or_none paths) (kid_at i i_le) ∙ kid_long i i_le (omega arith))
                  (siblings_part own (linked_node nodes (kid j)).scope (linked_node nodes (kid i)).scope (children.fall (i - length rest) (j - length rest) 0 (omega arith) (kid_in j le lt)))
            ]
          ]

      covered_rest : (q j : ℕ) → j < length rest → IsBelow (path_or_none paths (get_or before j 0)) (path_or_none paths q) → (k : ℕ) × (k < length after) × IsBelow (path_or_none paths (get_or after k 0)) (path_or_none paths q)
      covered_rest q j less below =
          (j, (let long = after_long in omega arith), subst (λ (x : ℕ). IsBelow (path_or_none paths x) (path_or_none paths q)) (rest_at j less ∙ sym (rest_after j less)) below)

      covered_kid : (q c : ℕ) → c < length nodes → (linked_node nodes c).parent ≡ p → IsBelow (path_or_none paths c) (path_or_none paths q) → (k : ℕ) × (k < length after) × IsBelow (path_or_none paths (get_or after k 0)) (path_or_none paths q)
      covered_kid q c lt is below =
          let found = children.all c lt is in
          let k : ℕ = found.0 in
          let at : get_or after (length rest + k) 0 ≡ c = get_or-append-add rest kids k 0 ∙ get_or_default kids k 0 c found.1 ∙ found.2 in
          (length rest + k, (let long = after_long in let in_kids = found.1 in omega arith), subst (λ (x : ℕ). IsBelow (path_or_none paths x) (path_or_none paths q)) (sym at) below)

      covered_top : (q : ℕ) → q < length nodes → q ≢ p → (r : Path) → path_or_none paths q ≡ own ++ r → (k : ℕ) × (k < length after) × IsBelow (path_or_none paths (get_or after k 0)) (path_or_none paths q)
      covered_top q lt apart [] is = absurd (apart (are.rooted.once q p lt top_place (is ∙ append-nil own)))
      covered_top q lt apart (s ∷ r) is =
          let c = through q p s r lt (λ inner. top_place) (is ∙ ap (λ (x : Path). x ++ s ∷ r) (sym (own_path p top_place))) in
          covered_kid q c.0 c.1 c.2 c.3

      covered_new : (q : ℕ) → q < length nodes → number_given numbers_new q ≡ no_parent → (k : ℕ) × (k < length after) × IsBelow (path_or_none paths (get_or after k 0)) (path_or_none paths q)
      covered_new q lt none =
          let apart : q ≢ p = λ is. own_number (ap (number_given numbers_new) (sym is) ∙ none) in
          let old = w.covered q lt (sym (number_other q apart) ∙ none) in
          let j_lt = old.1 in
          let long = stack_long in
          elim (last_cases old.0 (length rest) (omega arith)) [
            | inl less ↦ covered_rest q old.0 less old.2
            | inr is ↦
                let top : get_or before old.0 0 ≡ p = ap (λ (k : ℕ). get_or before k 0) is ∙ top_at in
                covered_top q lt apart old.2.rest (old.2.is ∙ ap (λ (x : ℕ). path_or_none paths x ++ old.2.rest) top)
          ]

      pub step : Walks nodes numbers_new after order_new
      step = record {
        long = length-set numbers p (length order) ∙ w.long;
        numbered = numbered_new;
        indices = places_new;
        parents = parents_new;
        ahead = ahead_new;
        apart = apart_new;
        covered = covered_new;
      }

  -- ---- a node in order that is next in other walks

  module _ (numbers stack : List ℕ) (order : List Node) (x : Node) (own : Path) (w : Walks nodes numbers stack order) (is : path_below (tree_paths order) x ≡ own)
      (leads : (j : ℕ) → j < length stack → path_order own (path_or_none paths (get_or stack j 0)) ≡ Less) where
    abbrev order_more : List Node
    order_more = order ++ x ∷ []

    more_paths : tree_paths order_more ≡ tree_paths order ++ own ∷ []
    more_paths = tree_paths_push order x ∙ ap (λ (q : Path). tree_paths order ++ q ∷ []) is

    more_old : (i : ℕ) → i < length order → path_or_none (tree_paths order_more) i ≡ path_or_none (tree_paths order) i
    more_old i lt = ap (λ (ps : List Path). get_or ps i []) more_paths ∙ get_or-append (tree_paths order) (own ∷ []) [] i (let long = as_many_paths order in omega arith)

    more_last : (i : ℕ) → i ≡ length order → path_or_none (tree_paths order_more) i ≡ own
    more_last i at =
        ap (λ (ps : List Path). get_or ps i []) more_paths ∙ ap (λ (k : ℕ). get_or (tree_paths order ++ own ∷ []) k []) (at ∙ sym (as_many_paths order))
        ∙ get_or-append_seam (tree_paths order) own [] []

    pub stay : Walks nodes numbers stack order_more
    stay = record {
      long = w.long;
      numbered = λ q lt set. (let old = w.numbered q lt set in ((let long = length-append order (x ∷ []) in let less = old.0 in omega arith), more_old (number_given numbers q) old.0 ∙ old.1));
      indices = w.indices;
      parents = w.parents;
      ahead = λ i j i_lt j_lt.
          let long = length-append order (x ∷ []) in
          elim (last_cases i (length order) (omega arith)) [
            | inl old ↦ ap (λ (q : Path). path_order q (path_or_none paths (get_or stack j 0))) (more_old i old) ∙ w.ahead i j old j_lt
            | inr at ↦ ap (λ (q : Path). path_order q (path_or_none paths (get_or stack j 0))) (more_last i at) ∙ leads j j_lt
          ];
      apart = w.apart;
      covered = w.covered;
    }
