-- One node more of a walk.
use Rattle.std.proofs.Common.{◌≡◌, ℕ, zero, suc, ◌+◌, ◌-◌, ◌*◌, ◌<◌, ◌≤◌, ◌==◌, ◌&&◌, true, false, not, cond, List, [], ◌∷◌, ◌++◌, length, take, drop, get_or, filter, sum_by, Less, Equal, Greater, All, AllPairs, refl, sym, ap, subst, ◌∙◌, arith, inl, inr, take-append-drop}
use Rattle.std.specs.Prelude.{◌≢◌, reverse, Result, Ok, Err, OnOk}
use Rattle.std.specs.List.{flat_map, range_with_len}
use Rattle.std.specs.Ordering.{nat_cmp, ordering_then}
use Rattle.std.proofs.lemmas.Bool.{cases_lt, cases_eq, eq-eqb, ne_eqb}
use Rattle.std.proofs.lemmas.Bool.Decides.{nat_tests}
use Rattle.std.proofs.lemmas.List.{get_or-replicate, length-replicate, get_or-take, get_or-drop, length-take, length-drop}
use Rattle.std.proofs.lemmas.List.Elements.{All-nil, All-head, All-tail, All-weaker, All-take, All-drop, filter-append}
use Rattle.std.proofs.lemmas.List.Sums.{sum_by-cons, sum_by-append, sum_by-take-le, sum_by-take-drop}
use Rattle.scope_types.specs.Limits.{most_samples}
use Rattle.tree_types.specs.declared.content.Kind.TheVariants.{Exclusive, Frame, Inclusive}
use Rattle.tree_types.specs.declared.content.Node.{Node}
use Rattle.tree_types.specs.declared.counted_tree.NodeCount.{NodeCount}
use Rattle.tree_types.specs.declared.node_values.NodeValue.{NodeValue}
use Rattle.tree_types.specs.Nodes.{no_parent}
use Rattle.tree_types.specs.NodeValues.{nonzero, values_for_column, values_at_node, values_of}
use Rattle.tree_types.specs.Tree.{CountedTree, IsTree, count_order, count_at, counts_in, node_at}
use Rattle.tree_types.proofs.Enclosed.{enclosed}
use Rattle.tree_types.proofs.TreeLaws.{counts_are_paths}
use Rattle.metric_sums.specs.declared.column_sums.Sum.{Sum}
use Rattle.metric_sums.specs.declared.ancestors.OpenNode.{OpenNode}
use Rattle.metric_sums.specs.private.Sums.{IsSmall, handed_up, sum_of_both, no_paths, count_of_column, with_own}
use Rattle.metric_sums.specs.private.Ancestors.{SumsOf, HandsUp, values_of_sums, sum_values}
use Rattle.metric_sums.specs.private.Walking.{whole_sum, pending, IsOpen, At}
use Rattle.metric_sums.proofs.Lasts.{fronts, all_last, all_more, pairs_last, pairs_front, pairs_more, all_before}
use Rattle.metric_sums.proofs.Shares.{pending_none, pending_other, pending_own, pending_small, whole_is, whole_small, joined_to_none}

abbrev Rising : List OpenNode → Type 0
Rising ancestors = AllPairs (λ a b. a.node < b.node) ancestors

-- ---- counts

pub same_counts : (cs : List NodeCount) (i h : ℕ) → All (λ c. c.node ≡ i) cs → count_at cs i h ≡ count_of_column cs h
same_counts [] i h own = refl
same_counts (c ∷ cs) i h own =
    let here : c.node ≡ i = All-head (λ (c : NodeCount). c.node ≡ i) c cs own in
    let rest = same_counts cs i h (All-tail (λ (c : NodeCount). c.node ≡ i) c cs own) in
    ap (λ b. sum_by (λ c. c.count) (cond (b && c.column == h) (c ∷ filter (λ c. c.node == i && c.column == h) cs) (filter (λ c. c.node == i && c.column == h) cs))) (eq-eqb c.node i here)
    ∙ elim (c.column == h) as (λ b. sum_by (λ c. c.count) (cond b (c ∷ filter (λ c. c.node == i && c.column == h) cs) (filter (λ c. c.node == i && c.column == h) cs)) ≡ sum_by (λ c. c.count) (cond b (c ∷ filter (λ c. c.column == h) cs) (filter (λ c. c.column == h) cs))) [
      | true ↦
          let a = sum_by-cons (λ (c : NodeCount). c.count) c (filter (λ c. c.node == i && c.column == h) cs) in
          let b = sum_by-cons (λ (c : NodeCount). c.count) c (filter (λ c. c.column == h) cs) in
          omega (arith, a, b, rest)
      | false ↦ rest
    ]

other_counts : (cs : List NodeCount) (i h : ℕ) → All (λ c. c.node ≢ i) cs → count_at cs i h ≡ 0
other_counts [] i h apart = refl
other_counts (c ∷ cs) i h apart =
    ap (λ b. sum_by (λ c. c.count) (cond (b && c.column == h) (c ∷ filter (λ c. c.node == i && c.column == h) cs) (filter (λ c. c.node == i && c.column == h) cs))) (ne_eqb c.node i (All-head (λ (c : NodeCount). c.node ≢ i) c cs apart))
    ∙ other_counts cs i h (All-tail (λ (c : NodeCount). c.node ≢ i) c cs apart)

counts_joined : (xs ys : List NodeCount) (i h : ℕ) → count_at (xs ++ ys) i h ≡ count_at xs i h + count_at ys i h
counts_joined xs ys i h =
    ap (sum_by (λ c. c.count)) (filter-append (λ c. c.node == i && c.column == h) xs ys)
    ∙ sum_by-append (λ (c : NodeCount). c.count) (filter (λ c. c.node == i && c.column == h) xs) (filter (λ c. c.node == i && c.column == h) ys)

in_order : (a b : NodeCount) → count_order a b ≡ Less → a.node ≤ b.node
in_order a b less = elim (cases_lt b.node a.node) [
  | inl lt ↦
      let more : nat_cmp a.node b.node ≡ Greater = grind (arith, nat_tests) in
      let f : Greater ≡ Less = sym (ap (λ o. ordering_then o (ordering_then (nat_cmp a.column b.column) Equal)) more) ∙ less in absurd cc
  | inr ge ↦ ge
]

module _ (period : ℕ → ℕ) (t : CountedTree) (tree : IsTree t) (few : counts_in t.counts ≤ most_samples) where
  abbrev size : ℕ
  size = length t.nodes

  abbrev parent : ℕ → ℕ
  parent j = (node_at t.nodes j).parent

  -- ---- the counts of a node

  -- what the walk finds of the counts of node i
  pub record Found (i left first : ℕ) : Type 0 where
    pub within : first ≤ left
    pub own : (k : ℕ) (d : NodeCount) → first ≤ k → k < left → (get_or t.counts k d).node ≡ i
    pub before : (d : NodeCount) → 0 < first → (get_or t.counts (first - 1) d).node ≢ i

  earlier : (i left first : ℕ) → Found i left first → left ≤ length t.counts → ((k : ℕ) (d : NodeCount) → k < left → (get_or t.counts k d).node < i + 1)
      → (k : ℕ) (d : NodeCount) → k < first → (get_or t.counts k d).node < i
  earlier i left first f inside low k d lt =
      let within = f.within in
      let apart = f.before d (omega arith) in
      let last : (get_or t.counts (first - 1) d).node < i = below _ i apart (low (first - 1) d (omega arith)) in
      elim (cases_lt k (first - 1)) [
        | inl less ↦ (let up = in_order (get_or t.counts k d) (get_or t.counts (first - 1) d) (tree.ascend k (first - 1) d less (omega arith)) in omega (arith, up, last))
        | inr ge ↦ let same : k ≡ first - 1 = omega arith in subst (λ (n : ℕ). (get_or t.counts n d).node < i) (sym same) last
      ]
    where
      below : (a b : ℕ) → a ≢ b → a < b + 1 → a < b
      below a b apart lt = omega arith

  own_counts : (i h left first : ℕ) → Found i left first → left ≤ length t.counts → ((k : ℕ) (d : NodeCount) → k < left → (get_or t.counts k d).node < i + 1)
      → ((k : ℕ) (d : NodeCount) → left ≤ k → k < length t.counts → i + 1 ≤ (get_or t.counts k d).node)
      → count_of_column (take (left - first) (drop first t.counts)) h ≡ count_at t.counts i h
  own_counts i h left first f inside low high =
      let within = f.within in
      let front : List NodeCount = take first t.counts in
      let rest : List NodeCount = drop first t.counts in
      let mine : List NodeCount = take (left - first) rest in
      let back : List NodeCount = drop (left - first) rest in
      let all = counts_joined front rest i h in
      let more = counts_joined mine back i h in
      let whole = ap (λ (cs : List NodeCount). count_at cs i h) (take-append-drop first t.counts) in
      let parts = ap (λ (cs : List NodeCount). count_at cs i h) (take-append-drop (left - first) rest) in
      let a : count_at front i h ≡ 0 = other_counts front i h (λ k d lt.
      let long = length-take first t.counts in
      let n = earlier i left first f inside low k d (omega (arith, lt, long)) in
      λ e. let here = ap (λ (c : NodeCount). c.node) (get_or-take first t.counts k d (omega (arith, lt, long))) in absurd (omega (arith, here, n, e))) in
      let b : count_at mine i h ≡ count_of_column mine h = same_counts mine i h (λ k d lt.
      let long = length-take (left - first) rest in
      let here = ap (λ (c : NodeCount). c.node) (get_or-take (left - first) rest k d (omega (arith, lt, long)) ∙ get_or-drop first t.counts k d) in
      here ∙ f.own (first + k) d (omega arith) (omega (arith, lt, long))) in
      let c : count_at back i h ≡ 0 = other_counts back i h (λ k d lt.
      let long = length-drop (left - first) rest in
      let all_long = length-drop first t.counts in
      let here = ap (λ (c : NodeCount). c.node) (get_or-drop (left - first) rest k d ∙ get_or-drop first t.counts (left - first + k) d) in
      let n = high (first + (left - first + k)) d (omega (arith, within)) (omega (arith, within, lt, long, all_long, inside)) in
      λ e. absurd (omega (arith, here, n, e))) in
      omega (arith, all, more, whole, parts, a, b, c)

  pub own_columns : (columns left first : ℕ) → columns ≡ t.columns → All (λ c. c.column < columns) (take (left - first) (drop first t.counts))
  own_columns columns left first is =
      All-take (λ (c : NodeCount). c.column < columns) (left - first) (drop first t.counts) (All-drop (λ (c : NodeCount). c.column < columns) first t.counts (λ k d lt. let l = tree.columns k d lt in omega (arith, l, is)))

  pub own_few : (left first : ℕ) → counts_in (take (left - first) (drop first t.counts)) ≤ most_samples
  own_few left first =
      let a = sum_by-take-le (λ (c : NodeCount). c.count) (drop first t.counts) (left - first) in
      let b = sum_by-take-drop (λ (c : NodeCount). c.count) t.counts first in
      omega (arith, a, b, few)

  -- ---- the sums of a node

  abbrev IsFar : ℕ → OpenNode → Type 0
  IsFar i o = IsOpen t (i + 1) o × (o.node < i)

  -- the ancestors without the node, and what its children hand up to it
  pub record Opened (i : ℕ) (ancestors : List OpenNode) (sums : List Sum) : Type 0 where
    pub parents : All (IsFar i) ancestors
    pub rise : Rising ancestors
    pub none : (node h : ℕ) → node < i → All (λ o. o.node ≢ node) ancestors → pending t (i + 1) node h ≡ no_paths
    pub long : length sums ≡ t.columns
    pub each : (h : ℕ) (d : Sum) → h < t.columns → get_or sums h d ≡ pending t (i + 1) i h

  pub opened : (i left : ℕ) (old new : List OpenNode) (sums : List Sum) (out : List NodeValue) → i < size → At period t (i + 1) old left out → SumsOf t.columns i old new sums → Opened i new sums
  opened i left old new sums out lt at (inl e) =
      let o : OpenNode = record { node = i; sums = sums } in
      let parents : All (IsOpen t (i + 1)) (new ++ o ∷ []) = subst (λ (l : List OpenNode). All (IsOpen t (i + 1)) l) e at.parents in
      let rise : Rising (new ++ o ∷ []) = subst Rising e at.rise in
      let before = pairs_last (λ (a b : OpenNode). a.node < b.node) new o rise in
      let own = all_last (IsOpen t (i + 1)) new o parents in
      record {
        parents = λ k d inside. (fronts (IsOpen t (i + 1)) new o parents k d inside, before k d inside);
        rise = pairs_front (λ (a b : OpenNode). a.node < b.node) new o rise;
        none = λ node h less apart. at.none node h (omega arith)
            (subst (λ (l : List OpenNode). All (λ o. o.node ≢ node) l) (sym e) (all_more (λ (o : OpenNode). o.node ≢ node) new o apart (λ same. absurd (omega arith))));
        long = own.long;
        each = own.each;
      }
  opened i left old new sums out lt at (inr (fails, same, zeros)) =
      let below : All (λ o. o.node < i + 1) old = All-weaker (IsOpen t (i + 1)) (λ o. o.node < i + 1) (λ o h. h.below) old at.parents in
      let before : All (λ o. o.node < i) old = all_before i old at.rise below fails in
      record {
        parents = subst (λ (l : List OpenNode). All (IsFar i) l) (sym same) (λ k d inside. (at.parents k d inside, before k d inside));
        rise = subst Rising (sym same) at.rise;
        none = λ node h less apart. at.none node h (omega arith) (subst (λ (l : List OpenNode). All (λ o. o.node ≢ node) l) same apart);
        long = ap (λ (r : List Sum). length r) zeros ∙ length-replicate t.columns no_paths;
        each = λ h d inside.
            ap (λ (r : List Sum). get_or r h d) zeros ∙ get_or-replicate t.columns h no_paths d inside
            ∙ sym (at.none i h (omega arith) (All-weaker (λ (o : OpenNode). o.node < i) (λ o. o.node ≢ i) (λ o less same. absurd (omega arith)) old before));
      }

  pub sums_small : (i : ℕ) (ancestors : List OpenNode) (sums : List Sum) → i < size → Opened i ancestors sums → All IsSmall sums
  sums_small i ancestors sums lt o = λ h d inside.
      let long = o.long in
      subst IsSmall (sym (o.each h d (omega (arith, long, inside)))) (pending_small t tree (i + 1) i h few (omega arith) (omega arith))

  pub ancestors_small : (i : ℕ) (ancestors : List OpenNode) (sums : List Sum) → i < size → Opened i ancestors sums → All (λ o. All IsSmall o.sums) ancestors
  ancestors_small i ancestors sums lt o = All-weaker (IsFar i) (λ p. All IsSmall p.sums) (λ p far h d inside.
      let long = far.0.long in
      let below = far.1 in
      subst IsSmall (sym (far.0.each h d (omega (arith, long, inside)))) (pending_small t tree (i + 1) p.node h few (omega arith) (omega arith))) ancestors o.parents

  -- ---- all sums of a node

  pub record Summed (i : ℕ) (ancestors : List OpenNode) (sums : List Sum) : Type 0 where
    pub parents : All (IsFar i) ancestors
    pub rise : Rising ancestors
    pub none : (node h : ℕ) → node < i → All (λ o. o.node ≢ node) ancestors → pending t (i + 1) node h ≡ no_paths
    pub long : length sums ≡ t.columns
    pub each : (h : ℕ) (d : Sum) → h < t.columns → get_or sums h d ≡ whole_sum t i h

  pub summed : (i left first : ℕ) (old ancestors : List OpenNode) (sums new : List Sum) (out : List NodeValue) → i < size → At period t (i + 1) old left out → Opened i ancestors sums → Found i left first
      → length new ≡ length sums → ((h : ℕ) (d : Sum) → h < length new → get_or new h d ≡ with_own (count_of_column (take (left - first) (drop first t.counts)) h) (get_or sums h d))
      → Summed i ancestors new
  summed i left first old ancestors sums new out lt at o f same counted = record {
    parents = o.parents;
    rise = o.rise;
    none = o.none;
    long = same ∙ o.long;
    each = λ h d inside.
        let long = o.long in
        counted h d (omega (arith, same, long, inside))
        ∙ (λ k. with_own (own_counts i h left first f at.few at.before at.behind k) (o.each h d inside k))
        ∙ whole_is t tree i h lt;
  }

  pub summed_small : (i : ℕ) (ancestors : List OpenNode) (sums : List Sum) → i < size → Summed i ancestors sums → All IsSmall sums
  summed_small i ancestors sums lt s = λ h d inside.
      let long = s.long in
      subst IsSmall (sym (s.each h d (omega (arith, long, inside)))) (whole_small t tree i h few lt)

  pub same_long : (i : ℕ) (ancestors : List OpenNode) (sums : List Sum) → Summed i ancestors sums → All (λ o. length o.sums ≡ length sums) ancestors
  same_long i ancestors sums s = All-weaker (IsFar i) (λ p. length p.sums ≡ length sums) (λ p far. far.0.long ∙ sym s.long) ancestors s.parents

  pub ancestors_little : (i : ℕ) (ancestors : List OpenNode) (sums : List Sum) → i < size → Summed i ancestors sums → All (λ o. All IsSmall o.sums) ancestors
  ancestors_little i ancestors sums lt s = All-weaker (IsFar i) (λ p. All IsSmall p.sums) (λ p far h d inside.
      let long = far.0.long in
      let below = far.1 in
      subst IsSmall (sym (far.0.each h d (omega (arith, long, inside)))) (pending_small t tree (i + 1) p.node h few (omega arith) (omega arith))) ancestors s.parents

  -- ---- the values of a node

  flat_same : (f g : ℕ → List NodeValue) (a n : ℕ) → ((j : ℕ) → a ≤ j → j < a + n → f j ≡ g j) → flat_map f (range_with_len a n) ≡ flat_map g (range_with_len a n)
  flat_same f g a zero same = refl
  flat_same f g a (suc n) same = λ i. same a (omega arith) (omega arith) i ++ flat_same f g (a + 1) n (λ j le lt. same j (omega arith) (omega arith)) i

  column_values : (i h : ℕ) → i < size → sum_values (period h) i h (whole_sum t i h) ≡ values_for_column period t i h
  column_values i h lt =
      let own = counts_are_paths t i h tree lt in
      λ k. record { node = i; column = h; kind = Exclusive; value = period h * own k }
      ∷ record { node = i; column = h; kind = Frame; value = period h * (whole_sum t i h).frame }
      ∷ record { node = i; column = h; kind = Inclusive; value = period h * (whole_sum t i h).inclusive } ∷ []

  pub node_values : (i : ℕ) (ancestors : List OpenNode) (sums : List Sum) → i < size → Summed i ancestors sums → values_of_sums period i sums 0 (length sums) ≡ nonzero (values_at_node period t i)
  node_values i ancestors sums lt s =
      ap (values_of_sums period i sums 0) s.long
      ∙ ap nonzero (flat_same (λ h. sum_values (period h) i h (get_or sums h no_paths)) (values_for_column period t i) 0 t.columns (λ h le inside.
      ap (sum_values (period h) i h) (s.each h no_paths (omega arith)) ∙ column_values i h lt))

  pub all_values : (i : ℕ) (ancestors : List OpenNode) (sums : List Sum) (old new : List NodeValue) → i < size → Summed i ancestors sums
      → reverse old ≡ nonzero (flat_map (values_at_node period t) (range_with_len (i + 1) (size - (i + 1))))
      → reverse new ≡ values_of_sums period i sums 0 (length sums) ++ reverse old
      → reverse new ≡ nonzero (flat_map (values_at_node period t) (range_with_len i (size - i)))
  all_values i ancestors sums old new lt s so_far put =
      let more : size - i ≡ suc (size - (i + 1)) = omega arith in
      put ∙ (λ k. node_values i ancestors sums lt s k ++ so_far k)
      ∙ sym (filter-append (λ (v : NodeValue). not (v.value == 0)) (values_at_node period t i) (flat_map (values_at_node period t) (range_with_len (i + 1) (size - (i + 1)))))
      ∙ ap (λ (n : ℕ). nonzero (flat_map (values_at_node period t) (range_with_len i n))) (sym more)

  -- ---- the ancestors after a node

  keeps : (i : ℕ) (p : OpenNode) → i < size → IsFar i p → parent i ≢ p.node → IsOpen t i p
  keeps i p lt far apart = record {
    long = far.0.long;
    below = far.1;
    child = (let c = far.0.child in (c.0, (let le = c.1 in omega arith), c.2, c.3));
    each = λ h d inside. far.0.each h d inside ∙ sym (pending_other t tree i p.node h lt apart);
  }

  keep_all : (i : ℕ) (ancestors : List OpenNode) → i < size → All (IsFar i) ancestors → All (λ o. parent i ≢ o.node) ancestors → All (IsOpen t i) ancestors
  keep_all i ancestors lt far apart = λ k d inside. keeps i (get_or ancestors k d) lt (far k d inside) (apart k d inside)

  -- the ancestors, and what they lack, once node i is done
  pub record Passed (i : ℕ) (ancestors : List OpenNode) : Type 0 where
    pub parents : All (IsOpen t i) ancestors
    pub rise : Rising ancestors
    pub none : (node h : ℕ) → node < i → All (λ o. o.node ≢ node) ancestors → pending t i node h ≡ no_paths

  pub at_root : (i : ℕ) (ancestors : List OpenNode) (sums : List Sum) → i < size → Summed i ancestors sums → parent i ≡ no_parent → Passed i ancestors
  at_root i ancestors sums lt s root =
      let few_nodes = tree.few in
      record {
        parents = keep_all i ancestors lt s.parents (All-weaker (IsFar i) (λ o. parent i ≢ o.node) (λ o far same. let below = far.1 in absurd (omega arith)) ancestors s.parents);
        rise = s.rise;
        none = λ node h less apart. pending_other t tree i node h lt (λ same. absurd (omega arith)) ∙ s.none node h less apart;
      }

  module _ (i : ℕ) (sums : List Sum) (lt : i < size) (inner : parent i ≢ no_parent) where
    abbrev p : ℕ
    p = parent i

    p_before : p < i
    p_before = tree.preorder.parents i _ lt inner

    -- the parent's sums with what node i hands up
    handed : (rest : List OpenNode) (new : List Sum) → All (IsFar i) rest → Rising rest → All (λ o. o.node < p) rest
        → ((node h : ℕ) → node < i → All (λ o. o.node ≢ node) rest → node ≢ p → pending t (i + 1) node h ≡ no_paths)
        → length new ≡ t.columns → ((h : ℕ) (d : Sum) → h < t.columns → get_or new h d ≡ pending t i p h)
        → Passed i (rest ++ record { node = p; sums = new } ∷ [])
    handed rest new far rise below none long each =
        let o : OpenNode = record { node = p; sums = new } in
        let apart : All (λ o. p ≢ o.node) rest = All-weaker (λ (o : OpenNode). o.node < p) (λ o. p ≢ o.node) (λ o less same. absurd (omega arith)) rest below in
        record {
          parents = all_more (IsOpen t i) rest o (keep_all i rest lt far apart) (record { long = long; below = p_before; child = (i, omega arith, lt, refl); each = each });
          rise = pairs_more (λ (a b : OpenNode). a.node < b.node) rest o rise below;
          none = λ node h less others.
              let not_p : p ≢ node = all_last (λ (o : OpenNode). o.node ≢ node) rest o others in
              pending_other t tree i node h lt not_p ∙ none node h less (fronts (λ (o : OpenNode). o.node ≢ node) rest o others) (λ e. not_p (sym e));
        }

    pub passed_up : (ancestors new : List OpenNode) → Summed i ancestors sums → HandsUp p (node_at t.nodes i).scope sums ancestors new → Passed i new
    passed_up ancestors new s (inl (rest, up, sum, e, f, j)) =
        let o : OpenNode = record { node = p; sums = up } in
        let far : All (IsFar i) (rest ++ o ∷ []) = subst (λ (l : List OpenNode). All (IsFar i) l) e s.parents in
        let rise : Rising (rest ++ o ∷ []) = subst Rising e s.rise in
        let own = all_last (IsFar i) rest o far in
        subst (Passed i) (sym f)
        (handed rest sum (fronts (IsFar i) rest o far) (pairs_front (λ (a b : OpenNode). a.node < b.node) rest o rise) (pairs_last (λ (a b : OpenNode). a.node < b.node) rest o rise)
        (λ node h less apart not_p. s.none node h less (subst (λ (l : List OpenNode). All (λ o. o.node ≢ node) l) (sym e) (all_more (λ (o : OpenNode). o.node ≢ node) rest o apart (λ same. not_p (sym same)))))
        (j.0 ∙ own.0.long)
        (λ h d inside.
        let long = own.0.long in let same = j.0 in
        j.1 h d (omega (arith, same, long, inside))
        ∙ (λ k. sum_of_both (own.0.each h d inside k) (handed_up (node_at t.nodes i).scope (s.each h d inside k)))
        ∙ sym (pending_own t tree i p h lt refl)))
    passed_up ancestors new s (inr (turned, fails, f, j)) =
        let up : All (λ o. o.node < p + 1) ancestors = All-weaker (IsFar i) (λ o. o.node < p + 1) (λ o far.
        let child = far.0.child in
        let c1 = child.1 in
        let most = (enclosed t tree o.node i child.0 far.1 (omega arith) child.2 child.3).1 in omega (arith, most)) ancestors s.parents in
        let below : All (λ o. o.node < p) ancestors = all_before p ancestors s.rise up fails in
        let nothing : (h : ℕ) → pending t (i + 1) p h ≡ no_paths = λ h. s.none p h p_before (All-weaker (λ (o : OpenNode). o.node < p) (λ o. o.node ≢ p) (λ o less same. absurd (omega arith)) ancestors below) in
        subst (Passed i) (sym f)
        (handed ancestors turned s.parents s.rise below (λ node h less apart not_p. s.none node h less apart) (j.0 ∙ s.long)
        (λ h d inside.
        let long = s.long in let same = j.0 in
        j.1 h d (omega (arith, same, long, inside))
        ∙ ap (handed_up (node_at t.nodes i).scope) (s.each h d inside)
        ∙ sym (pending_own t tree i p h lt refl ∙ ap (λ (x : Sum). sum_of_both x (handed_up (node_at t.nodes i).scope (whole_sum t i h))) (nothing h) ∙ joined_to_none (handed_up (node_at t.nodes i).scope (whole_sum t i h)))))

  pub stepped : (i left first : ℕ) (old ancestors : List OpenNode) (sums : List Sum) (out_old out_new : List NodeValue) (old_ancestors : List OpenNode) → i < size → At period t (i + 1) old left out_old → Found i left first
      → Summed i old_ancestors sums → Passed i ancestors → reverse out_new ≡ values_of_sums period i sums 0 (length sums) ++ reverse out_old → At period t i ancestors first out_new
  stepped i left first old ancestors sums out_old out_new old_ancestors lt at f s passed put =
      let within = f.within in let inside = at.few in
      record {
        parents = passed.parents;
        rise = passed.rise;
        none = passed.none;
        few = omega arith;
        before = earlier i left first f at.few at.before;
        behind = λ k d le below. elim (cases_lt k left) [
          | inl own ↦ (let e = f.own k d le own in omega (arith, e))
          | inr past ↦ (let high = at.behind k d past below in omega (arith, high))
        ];
        values = all_values i old_ancestors sums out_old out_new lt s at.values put;
      }

  -- ---- the same of what calls show

  -- what was found and counted of the counts that a call shows
  pub record Walked (shown : List NodeCount) (i left first : ℕ) (sums new : List Sum) : Type 0 where
    pub within : first ≤ left
    pub own : (k : ℕ) (d : NodeCount) → first ≤ k → k < left → (get_or shown k d).node ≡ i
    pub before : (d : NodeCount) → 0 < first → (get_or shown (first - 1) d).node ≢ i
    pub same : length new ≡ length sums
    pub counted : (h : ℕ) (d : Sum) → h < length new → get_or new h d ≡ with_own (count_of_column (take (left - first) (drop first shown)) h) (get_or sums h d)

  pub sums_opened : (i left columns : ℕ) (old ancestors : List OpenNode) (sums : List Sum) (out : List NodeValue) → i < size → At period t (i + 1) old left out → columns ≡ t.columns → SumsOf columns i old ancestors sums → Opened i ancestors sums
  sums_opened i left columns old ancestors sums out lt at is r = opened i left old ancestors sums out lt at (subst (λ (n : ℕ). SumsOf n i old ancestors sums) is r)

  pub few_shown : (shown : List NodeCount) (left first : ℕ) → shown ≡ t.counts → counts_in (take (left - first) (drop first shown)) ≤ most_samples
  few_shown shown left first is = subst (λ (cs : List NodeCount). counts_in (take (left - first) (drop first cs)) ≤ most_samples) (sym is) (own_few left first)

  pub sums_summed : (i left first columns : ℕ) (old ancestors : List OpenNode) (sums new : List Sum) (out : List NodeValue) (shown : List NodeCount) → i < size → At period t (i + 1) old left out → columns ≡ t.columns → SumsOf columns i old ancestors sums
      → shown ≡ t.counts → Walked shown i left first sums new → Summed i ancestors new
  sums_summed i left first columns old ancestors sums new out shown lt at is r same w =
      let real : Walked t.counts i left first sums new = subst (λ (cs : List NodeCount). Walked cs i left first sums new) same w in
      summed i left first old ancestors sums new out lt at (sums_opened i left columns old ancestors sums out lt at is r) (record { within = real.within; own = real.own; before = real.before }) real.same real.counted

  pub walked_on : {T E : Type 0} (r : Result T E) (i left first columns : ℕ) (old ancestors new_ancestors : List OpenNode) (sums new : List Sum) (out_old out_new : List NodeValue) (shown : List NodeCount) (n : Node) → i < size
      → At period t (i + 1) old left out_old → columns ≡ t.columns → SumsOf columns i old ancestors sums → shown ≡ t.counts → Walked shown i left first sums new
      → reverse out_new ≡ values_of_sums period i new 0 (length new) ++ reverse out_old → n ≡ node_at t.nodes i
      → OnOk r (n.parent ≡ no_parent → new_ancestors ≡ ancestors) → OnOk r (n.parent ≢ no_parent → HandsUp n.parent n.scope new ancestors new_ancestors)
      → OnOk r (At period t i new_ancestors first out_new)
  walked_on (Err e) i left first columns old ancestors new_ancestors sums new out_old out_new shown n lt at is r same w put own root inner = tt
  walked_on (Ok x) i left first columns old ancestors new_ancestors sums new out_old out_new shown n lt at is r same w put own root inner =
      let real : Walked t.counts i left first sums new = subst (λ (cs : List NodeCount). Walked cs i left first sums new) same w in
      let s = sums_summed i left first columns old ancestors sums new out_old shown lt at is r same w in
      let passed : Passed i new_ancestors = elim (cases_eq n.parent no_parent) [
        | inl none ↦ subst (Passed i) (sym (root none)) (at_root i ancestors new lt s (sym (ap (λ (n : Node). n.parent) own) ∙ none))
        | inr some ↦ passed_up i new lt (λ e. some (ap (λ (n : Node). n.parent) own ∙ e)) ancestors new_ancestors s (subst (λ (m : Node). HandsUp m.parent m.scope new ancestors new_ancestors) own (inner some))
      ] in
      stepped i left first old new_ancestors new out_old out_new ancestors lt at (record { within = real.within; own = real.own; before = real.before }) s passed put

  -- ---- the walk's ends

  pub beginning : (left : ℕ) → left ≡ length t.counts → At period t size [] left []
  beginning left is = record {
    parents = All-nil (IsOpen t size);
    rise = λ i j d less lt. absurd (omega arith);
    none = λ node h lt apart. pending_none t tree node h;
    few = omega arith;
    before = λ k d lt. tree.nodes k d (omega (arith, is, lt));
    behind = λ k d le lt. absurd (omega (arith, is, le, lt));
    values = (let none : size - size ≡ 0 = omega arith in ap (λ (n : ℕ). nonzero (flat_map (values_at_node period t) (range_with_len size n))) (sym none));
  }

  pub ended : (ancestors : List OpenNode) (left : ℕ) (out : List NodeValue) → At period t 0 ancestors left out → reverse out ≡ (values_of period t).entries
  unfolding values_of
  ended ancestors left out at = (let all : size - 0 ≡ size = omega arith in at.values ∙ ap (λ (n : ℕ). nonzero (flat_map (values_at_node period t) (range_with_len 0 n))) all)

  pub begun : (first left : ℕ) (ancestors : List OpenNode) (out : List NodeValue) → first ≡ size → left ≡ length t.counts → ancestors ≡ [] → out ≡ [] → At period t first ancestors left out
  begun first left ancestors out is all no_ancestors no_out =
      subst (λ (n : ℕ). At period t n ancestors left out) (sym is)
      (subst (λ (l : List OpenNode). At period t size l left out) (sym no_ancestors) (subst (λ (vs : List NodeValue). At period t size [] left vs) (sym no_out) (beginning left all)))

  pub all_made : (n done columns left : ℕ) (ancestors : List OpenNode) (out entries : List NodeValue) → n ≡ size → n ≤ done → At period t (n - done) ancestors left out → columns ≡ t.columns → entries ≡ reverse out
      → values_of period t ≡ record { nodes = n; columns = columns; entries = entries }
  unfolding values_of
  all_made n done columns left ancestors out entries is over at own turned =
      let first : n - done ≡ 0 = omega arith in
      let all = turned ∙ ended ancestors left out (subst (λ (k : ℕ). At period t k ancestors left out) first at) in
      λ k. record { nodes = sym is k; columns = sym own k; entries = sym all k }
