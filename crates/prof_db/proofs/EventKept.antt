-- The nodes of a node list that have values of an event are those of the event's paths.
use Rattle.std.proofs.Common.{◌≡◌, ℕ, ◌*◌, ◌<◌, ◌==◌, ◌&&◌, not, nat_lt, Bool, true, false, cond, List, [], ◌∷◌, ◌++◌, length, get_or, map, filter, Less, All, Contains, refl, sym, ap, ◌∙◌, arith, true≢false, length-append}
use Rattle.std.specs.List.{list_any}
use Rattle.std.specs.Ordering.{eq_by_cmp}
use Rattle.std.proofs.Math.Nat.{mul-pos}
use Rattle.std.proofs.lemmas.Bool.{and_from, and_parts, eq-eqb, lt-ltb, ltb-true}
use Rattle.std.proofs.lemmas.List.Elements.{All-contains}
use Rattle.std.proofs.lemmas.List.Folds.{Any-from_list_any, list_any_at}
use Rattle.std.proofs.lemmas.List.FromFn.{get_or-map-range_with_len, length-map-range_with_len}
use Rattle.std.proofs.lemmas.List.Kept.{AllPairs-filter}
use Rattle.std.proofs.lemmas.List.Sums.{length-filter}
use Rattle.std.proofs.lemmas.Map.Views.{any-filter_same}
use Rattle.prof_bytes.proofs.Tests.{not_zero}
use Rattle.scope_types.specs.CallPaths.{ColumnPath}
use Rattle.scope_types.specs.Columns.{column_of, paths_of_event}
use Rattle.scope_types.specs.Order.{path_order}
use Rattle.scope_types.proofs.Orders.{path_order_total, path_order_tells}
use Rattle.tree_types.specs.declared.content.ContextEntry.{ContextEntry}
use Rattle.tree_types.specs.declared.content.Kind.{Kind}
use Rattle.tree_types.specs.declared.content.Kind.TheVariants.{Exclusive, Frame, Inclusive}
use Rattle.tree_types.specs.Laws.{IsNonemptyPrefix}
use Rattle.tree_types.specs.Nodes.{nodes}
use Rattle.tree_types.specs.Paths.{Path, after_prefix, rest_passes}
use Rattle.tree_types.specs.Planes.{context_entries, context_entries_of_kind, context_entry}
use Rattle.tree_types.specs.Values.{anything, columns_below, count_below, counts_for, value}
use Rattle.tree_types.proofs.Counting.{count_none}
use Rattle.tree_types.proofs.EventPaths.{event_within}
use Rattle.tree_types.proofs.NodeLaws.{node_is_prefix, nodes_ascend, only_nodes, prefix_is_node}
use Rattle.tree_types.proofs.Prefixes.{after_again, after_is, passes_is}
use Rattle.tree_types.proofs.Sorting.{bool_same, equal_from_is, has, has-from_Contains, Contains-from_has}
use Rattle.prof_db.specs.private.EventParts.{has_event}
use Rattle.prof_db.proofs.EventLists.{any_by_length, has_by_length}
use Rattle.prof_db.proofs.EventValues.{list_is}

-- ---- the counts of paths at a node

module _ (ps : List ColumnPath) (n : Path) (some : 0 < length n) where
  abbrev is_node : Bool
  is_node = has path_order n (nodes ps)

  there : (p : ColumnPath) → Contains ps p → (test : Path → Bool) → rest_passes test (after_prefix n p.path) ≡ true → is_node ≡ true
  there p c test e =
      let r = passes_is test (after_prefix n p.path) e in
      has-from_Contains path_order_total path_order_tells n (nodes ps)
      (prefix_is_node ps p n c (record { some = some; rest = r.0; parts = after_is n p.path r.0 r.1 }))

  -- a path that is no node has no counts
  pub no_count : is_node ≡ false → (test : Path → Bool) (column : ℕ) → count_below test ps column n ≡ 0
  unfolding count_below
  no_count absent test column = count_none counts ps (none (list_any counts ps) refl)
    where
      counts : ColumnPath → Bool
      counts p = p.column == column && rest_passes test (after_prefix n p.path)

      none : (b : Bool) → list_any counts ps ≡ b → b ≡ false
      none false e = refl
      none true e =
          let a = Any-from_list_any counts ps e in
          let passes = (and_parts (a.1.column == column) (rest_passes test (after_prefix n a.1.path)) a.4).1 in
          absurd (true≢false (sym (there a.1 (a.0, a.2, a.3) test passes) ∙ absent))

  -- a path has counts in the column of one that it is a prefix of
  counted_at : (p : ColumnPath) → Contains ps p → IsNonemptyPrefix n p.path → 0 < count_below anything ps p.column n
  unfolding count_below
  counted_at p c prefix =
      let test : ColumnPath → Bool = λ q. q.column == p.column && rest_passes anything (after_prefix n q.path) in
      let after : rest_passes anything (after_prefix n p.path) ≡ true = ap (λ (q : Path). rest_passes anything (after_prefix n q)) prefix.parts ∙ ap (rest_passes anything) (after_again n prefix.rest) in
      let passes : test p ≡ true = and_from (p.column == p.column) (rest_passes anything (after_prefix n p.path)) (eq-eqb p.column p.column refl) after in
      let at_index : test (get_or ps c.0 p) ≡ true = ap test c.2 ∙ passes in
      let any : list_any test ps ≡ true = list_any_at test ps c.0 p c.1 at_index in
      let passed : 0 < length (filter test ps) = ltb-true 0 (length (filter test ps)) (sym (any_by_length test ps) ∙ any) in
      let long = length-filter test ps in
      omega (arith, passed, long)

  -- ---- the lists of nodes

  module _ (period harts : ℕ) (positive : 0 < period) (below : All (λ p. p.column < harts) ps) where
    abbrev other : ContextEntry → Bool
    other e = not (e.value == 0)

    abbrev at : Kind → ℕ → ContextEntry
    at kind h = context_entry kind h (value period ps h n kind)

    abbrev list : List ContextEntry
    list = context_entries (λ h. period) harts ps n

    none_of_kind : is_node ≡ false → (kind : Kind) → context_entries_of_kind (λ h. period) harts ps n kind ≡ []
    none_of_kind absent kind = no_entry (columns_below harts)
      where
        zero_times : (a b : ℕ) → b ≡ 0 → a * b ≡ 0
        zero_times a b e = ap (λ (k : ℕ). a * k) e ∙ (let z : a * 0 ≡ 0 = omega arith in z)

        no_entry : (hs : List ℕ) → filter other (map (at kind) hs) ≡ []
        no_entry [] = refl
        no_entry (h ∷ hs) =
            let value_is : value period ps h n kind ≡ 0 = zero_times period (count_below (counts_for kind) ps h n) (no_count absent (counts_for kind) h) in
            ap (λ b. cond (not b) (at kind h ∷ filter other (map (at kind) hs)) (filter other (map (at kind) hs))) (eq-eqb (value period ps h n kind) 0 value_is)
            ∙ no_entry hs

    none_at : is_node ≡ false → list ≡ []
    unfolding context_entries
    none_at absent = λ i. none_of_kind absent Exclusive i ++ (none_of_kind absent Frame i ++ (none_of_kind absent Inclusive i ++ []))

    some_at : is_node ≡ true → 0 < length list
    unfolding context_entries
    some_at is =
        let p = node_is_prefix ps n (Contains-from_has path_order_total path_order_tells n (nodes ps) is) in
        let h : ℕ = p.0.column in
        let lt : h < harts = All-contains (λ (q : ColumnPath). q.column < harts) ps p.0 below p.1 in
        let counted : 0 < count_below anything ps h n = counted_at p.0 p.1 p.2 in
        let valued : 0 < value period ps h n Inclusive = mul-pos positive counted in
        let long : h < length (map (at Inclusive) (columns_below harts)) = (let l = length-map-range_with_len (at Inclusive) 0 harts in omega (arith, l, lt)) in
        let entry : get_or (map (at Inclusive) (columns_below harts)) h (at Inclusive h) ≡ at Inclusive h = get_or-map-range_with_len (at Inclusive) 0 harts h h (at Inclusive h) lt (omega arith) in
        let passes : other (get_or (map (at Inclusive) (columns_below harts)) h (at Inclusive h)) ≡ true = ap other entry ∙ ap not (not_zero (value period ps h n Inclusive) valued) in
        let any : list_any other (map (at Inclusive) (columns_below harts)) ≡ true = list_any_at other (map (at Inclusive) (columns_below harts)) h (at Inclusive h) long passes in
        let last : 0 < length (context_entries_of_kind (λ h. period) harts ps n Inclusive) = ltb-true 0 (length (context_entries_of_kind (λ h. period) harts ps n Inclusive)) (sym (any_by_length other (map (at Inclusive) (columns_below harts))) ∙ any) in
        let a = length-append (context_entries_of_kind (λ h. period) harts ps n Exclusive) (context_entries_of_kind (λ h. period) harts ps n Frame ++ (context_entries_of_kind (λ h. period) harts ps n Inclusive ++ [])) in
        let b = length-append (context_entries_of_kind (λ h. period) harts ps n Frame) (context_entries_of_kind (λ h. period) harts ps n Inclusive ++ []) in
        let c = length-append (context_entries_of_kind (λ h. period) harts ps n Inclusive) [] in
        omega (arith, a, b, c, last)

    pub listed_by_length : nat_lt 0 (length list) ≡ is_node
    listed_by_length = elim is_node as (λ b. is_node ≡ b → nat_lt 0 (length list) ≡ b) [
      | true ↦ λ e. lt-ltb 0 (length list) (some_at e)
      | false ↦ λ e. ap (λ (l : List ContextEntry). nat_lt 0 (length l)) (none_at e)
    ] refl

-- ---- the nodes of the event

module _ (events place : ℕ) (lt : place < events) (ps : List ColumnPath) (period : ℕ → ℕ) (p : ℕ) (own : (h : ℕ) → period (column_of events h place) ≡ p)
    (positive : 0 < p) (harts : ℕ) (below : All (λ q. q.column < harts) (paths_of_event events place ps)) where
  abbrev mine : List ColumnPath
  mine = paths_of_event events place ps

  -- whether a node is kept
  abbrev pub keeps : Path → Bool
  keeps n = has_event events place (context_entries period (harts * events) ps n)

  pub keeps_is : (n : Path) → 0 < length n → keeps n ≡ has path_order n (nodes mine)
  keeps_is n some =
      has_by_length events place (context_entries period (harts * events) ps n)
      ∙ ap (λ (l : List ContextEntry). nat_lt 0 (length l)) (list_is events place lt ps period p own harts n)
      ∙ listed_by_length mine n some p harts positive below

  in_kept : (q : Path) → has path_order q (filter keeps (nodes ps)) ≡ has path_order q (nodes mine)
  in_kept q =
      any-filter_same (eq_by_cmp path_order q) keeps (keeps q) (λ k e. ap keeps (sym (path_order_tells q k (equal_from_is (path_order q k) e)))) (nodes ps)
      ∙ bool_same (keeps q && has path_order q (nodes ps)) (has path_order q (nodes mine))
      (λ e.
      let both = and_parts (keeps q) (has path_order q (nodes ps)) e in
      let some = (node_is_prefix ps q (Contains-from_has path_order_total path_order_tells q (nodes ps) both.1)).2.some in
      sym (keeps_is q some) ∙ both.0)
      (λ e.
      let c = Contains-from_has path_order_total path_order_tells q (nodes mine) e in
      let some = (node_is_prefix mine q c).2.some in
      and_from (keeps q) (has path_order q (nodes ps)) (keeps_is q some ∙ e)
      (has-from_Contains path_order_total path_order_tells q (nodes ps) (event_within events place ps q c)))

  pub kept_are : filter keeps (nodes ps) ≡ nodes mine
  kept_are =
      only_nodes mine (filter keeps (nodes ps)) (AllPairs-filter (λ m n. path_order m n ≡ Less) keeps (nodes ps) (nodes_ascend ps))
      (λ n. (
        (λ c. Contains-from_has path_order_total path_order_tells n (nodes mine) (sym (in_kept n) ∙ has-from_Contains path_order_total path_order_tells n (filter keeps (nodes ps)) c)),
        (λ c. Contains-from_has path_order_total path_order_tells n (filter keeps (nodes ps)) (in_kept n ∙ has-from_Contains path_order_total path_order_tells n (nodes mine) c)),
      ))
