-- The lists of the nodes, a node at a time.
use Rattle.std.proofs.Common.{◌≡◌, ℕ, suc, ◌+◌, ◌-◌, ◌<◌, ◌≤◌, ◌==◌, ◌&&◌, Bool, true, false, cond, List, [], ◌∷◌, ◌++◌, length, get_or, take, drop, map, filter, Less, Equal, AllPairs, refl, sym, ap, subst, ◌∙◌, arith, inl, inr, append-nil, length-append, length-take, length-drop, take-append-drop}
use Rattle.std.specs.Prelude.{◌≢◌}
use Rattle.std.specs.declared.cmp.Ordering.TheVariants.{Greater}
use Rattle.std.specs.List.{flat_map}
use Rattle.std.specs.Ordering.{nat_cmp, ordering_then}
use Rattle.std.proofs.lemmas.Bool.{cases_order, cases_eq, eq-eqb, ne_eqb}
use Rattle.std.proofs.lemmas.Bool.Decides.{nat_tests}
use Rattle.std.proofs.lemmas.List.{map-append, get_or-drop, get_or-take, take_more}
use Rattle.std.proofs.lemmas.List.Elements.{filter-append}
use Rattle.std.proofs.lemmas.List.FromFn.{map-range_with_len_more, length-map-range_with_len}
use Rattle.tree_types.specs.Lists.{AreStarts, cut}
use Rattle.tree_types.specs.declared.content.ContextEntry.{ContextEntry}
use Rattle.tree_types.specs.declared.content.Kind.{Kind}
use Rattle.tree_types.specs.declared.node_values.NodeValue.{NodeValue}
use Rattle.tree_types.specs.NodeValues.{NodeValues, kind_rank, value_order}
use Rattle.tree_types.specs.Planes.{kinds}
use Rattle.tree_types.specs.ValuePlanes.{in_context, kind_entries, node_entries, entries_by_node}
use Rattle.tree_types.proofs.Cutting.{no_starts, no_lists, starts_more, cut_more}
use Rattle.sparse_planes.specs.private.Filling.{of_kind, IsFirstOwn, AtNode}

-- ---- a node's values of a kind

pub one_value_more : (values : List NodeValue) (i : ℕ) (kind : Kind) (v : NodeValue) → i < length values → v ≡ get_or values i v
    → map in_context (filter (of_kind kind) (take i values)) ++ map in_context (filter (of_kind kind) (v ∷ [])) ≡ map in_context (filter (of_kind kind) (take (i + 1) values))
one_value_more values i kind v lt is =
    sym (ap (λ (l : List NodeValue). map in_context (filter (of_kind kind) l)) (take_more values i v lt ∙ ap (λ (x : NodeValue). take i values ++ x ∷ []) (sym is))
    ∙ ap (map in_context) (filter-append (of_kind kind) (take i values) (v ∷ []))
    ∙ map-append in_context (filter (of_kind kind) (take i values)) (filter (of_kind kind) (v ∷ [])))

-- ---- a node's values

module _ {X : Type 0} (p : X → Bool) where
  none_pass : (xs : List X) → ((k : ℕ) (d : X) → k < length xs → p (get_or xs k d) ≡ false) → filter p xs ≡ []
  none_pass [] fails = refl
  none_pass (x ∷ xs) fails = ap (λ b. cond b (x ∷ filter p xs) (filter p xs)) (fails 0 x (omega arith)) ∙ none_pass xs (λ k d lt. fails (suc k) d (omega arith))

  all_pass : (xs : List X) → ((k : ℕ) (d : X) → k < length xs → p (get_or xs k d) ≡ true) → filter p xs ≡ xs
  all_pass [] passes = refl
  all_pass (x ∷ xs) passes = ap (λ b. cond b (x ∷ filter p xs) (filter p xs)) (passes 0 x (omega arith)) ∙ ap (λ (l : List X). x ∷ l) (all_pass xs (λ k d lt. passes (suc k) d (omega arith)))

  both_pass : (q : X → Bool) (xs : List X) → filter (λ x. p x && q x) xs ≡ filter q (filter p xs)
  both_pass q [] = refl
  both_pass q (x ∷ xs) = elim (p x) as (λ b. cond (b && q x) (x ∷ filter (λ x. p x && q x) xs) (filter (λ x. p x && q x) xs) ≡ filter q (cond b (x ∷ filter p xs) (filter p xs))) [
    | true ↦ ap (λ (l : List X). cond (q x) (x ∷ l) l) (both_pass q xs)
    | false ↦ both_pass q xs
  ]

nodes_rise : (a b : NodeValue) → value_order a b ≡ Less → a.node ≤ b.node
nodes_rise a b less = elim (cases_order a.node b.node) [
  | inl same ↦ omega arith
  | inr (inl lower) ↦ omega arith
  | inr (inr higher) ↦ (
      let above : nat_cmp a.node b.node ≡ Greater = grind (arith, nat_tests) in
      let e : Greater ≡ Less = sym (ap (λ o. ordering_then o (ordering_then (nat_cmp a.column b.column) (ordering_then (nat_cmp (kind_rank a.kind) (kind_rank b.kind)) Equal))) above) ∙ less in
      absurd cc
      )
]

module _ (values : List NodeValue) (node first end : ℕ)
    (ascend : AllPairs (λ a b. value_order a b ≡ Less) values) (at : IsFirstOwn values node first)
    (after : first ≤ end) (within : end ≤ length values)
    (own : (k : ℕ) (d : NodeValue) → first ≤ k → k < end → (get_or values k d).node ≡ node)
    (behind : (d : NodeValue) → end < length values → (get_or values end d).node ≢ node) where
  abbrev mine : NodeValue → Bool
  mine v = v.node == node

  later : (k : ℕ) (d : NodeValue) → end ≤ k → k < length values → node < (get_or values k d).node
  later k d le lt =
      let at_end = behind d (omega arith) in
      let low = at.behind end d after (omega arith) in
      elim (cases_eq end k) [
        | inl same ↦ (let e = ap (λ (i : ℕ). (get_or values i d).node) same in above (get_or values end d).node (get_or values k d).node at_end low e)
        | inr apart ↦ (let more = nodes_rise (get_or values end d) (get_or values k d) (ascend end k d (between apart) lt) in higher (get_or values end d).node (get_or values k d).node at_end low more)
      ]
    where
      above : (a b : ℕ) → a ≢ node → node ≤ a → a ≡ b → node < b
      above a b apart low e = omega arith

      higher : (a b : ℕ) → a ≢ node → node ≤ a → a ≤ b → node < b
      higher a b apart low more = omega arith

      between : end ≢ k → end < k
      between apart = omega arith

  pub next_first : IsFirstOwn values (node + 1) end
  next_first = record {
    within = within;
    before = λ k d lt. elim (cases_order k first) [
      | inl same ↦ (let e = own k d (omega arith) lt in omega arith)
      | inr (inl less) ↦ (let low = at.before k d less in omega arith)
      | inr (inr more) ↦ (let e = own k d (omega arith) lt in omega arith)
    ];
    behind = λ k d le lt. (let high = later k d le lt in omega arith);
  }

  abbrev part : List NodeValue
  part = take (end - first) (drop first values)

  own_part : filter mine values ≡ part
  own_part =
      let rest : List NodeValue = drop (end - first) (drop first values) in
      let long = length-drop first values in
      let short = length-take (end - first) (drop first values) in
      let front = length-take first values in
      let left = length-drop (end - first) (drop first values) in
      let far : first + (end - first) ≡ end = omega arith in
      let before : filter mine (take first values) ≡ [] = none_pass mine (take first values) (λ k d lt.
      ap mine (get_or-take first values k d (omega arith)) ∙ ne_eqb (get_or values k d).node node (lower (get_or values k d).node (at.before k d (omega arith)))) in
      let here : filter mine part ≡ part = all_pass mine part (λ k d lt.
      ap mine (get_or-take (end - first) (drop first values) k d (omega arith) ∙ get_or-drop first values k d) ∙ eq-eqb (get_or values (first + k) d).node node (own (first + k) d (omega arith) (omega arith))) in
      let none : filter mine rest ≡ [] = none_pass mine rest (λ k d lt.
      ap mine (get_or-drop (end - first) (drop first values) k d ∙ get_or-drop first values (end - first + k) d) ∙ ne_eqb (get_or values (first + (end - first + k)) d).node node (above (get_or values (first + (end - first + k)) d).node (later (first + (end - first + k)) d (omega arith) (omega arith)))) in
      ap (filter mine) (sym (take-append-drop first values) ∙ ap (λ (l : List NodeValue). take first values ++ l) (sym (take-append-drop (end - first) (drop first values))))
      ∙ filter-append mine (take first values) (part ++ rest) ∙ ap (λ (l : List NodeValue). filter mine (take first values) ++ l) (filter-append mine part rest)
      ∙ (λ i. before i ++ (here i ++ none i)) ∙ append-nil part
    where
      lower : (a : ℕ) → a < node → a ≢ node
      lower a lt e = absurd (omega arith)

      above : (a : ℕ) → node < a → a ≢ node
      above a lt e = absurd (omega arith)

  own_list : flat_map (λ kind. map in_context (filter (of_kind kind) part)) kinds ≡ node_entries values node
  own_list =
      let same : (kind : Kind) → map in_context (filter (of_kind kind) part) ≡ kind_entries values node kind = λ kind.
      ap (λ (l : List NodeValue). map in_context (filter (of_kind kind) l)) (sym own_part) ∙ ap (map in_context) (sym (both_pass mine (of_kind kind) values)) in
      λ i. flat_map (λ kind. same kind i) kinds

  pub node_more : (starts : List ℕ) (out more : List ContextEntry) (last : ℕ) → AtNode values node first starts out
      → more ≡ out ++ flat_map (λ kind. map in_context (filter (of_kind kind) part)) kinds → last ≡ length more
      → AtNode values (node + 1) end (starts ++ last ∷ []) more
  node_more starts out more last state is count =
      let list : List ContextEntry = flat_map (λ kind. map in_context (filter (of_kind kind) part)) kinds in
      let long : length more ≡ length out + length list = ap length is ∙ length-append out list in
      record {
        ordered = subst (λ (n : ℕ). AreStarts (starts ++ last ∷ []) n) count (starts_more starts (length out) last state.ordered (omega arith));
        lists =
            ap (cut (starts ++ last ∷ [])) is ∙ cut_more starts out list last state.ordered (count ∙ long)
            ∙ (λ i. state.lists i ++ own_list i ∷ []) ∙ sym (map-range_with_len_more (node_entries values) 0 node node (omega arith));
        behind = next_first;
      }

pub no_node : (values : List NodeValue) → AtNode values 0 0 (0 ∷ []) []
no_node values = record {
  ordered = no_starts;
  lists = no_lists [];
  behind = record { within = omega arith; before = λ k d lt. absurd (omega arith); behind = λ k d le lt. omega arith };
}

pub all_nodes : (values : NodeValues) (first : ℕ) (starts : List ℕ) (out : List ContextEntry) → AtNode values.entries values.nodes first starts out → cut starts out ≡ entries_by_node values
unfolding entries_by_node
all_nodes values first starts out state = state.lists

pub as_many_nodes : (values : NodeValues) → length (entries_by_node values) ≡ values.nodes
unfolding entries_by_node
as_many_nodes values = length-map-range_with_len (node_entries values.entries) 0 values.nodes
