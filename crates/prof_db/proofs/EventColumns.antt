-- The columns of one event, with the new numbers of the nodes, are those of the event's paths.
use Rattle.std.proofs.Common.{◌≡◌, ℕ, suc, ◌+◌, ◌*◌, ◌<◌, ◌≤◌, ◌==◌, not, Bool, false, List, [], ◌∷◌, length, get_or, take, map, filter, All, sym, ap, ◌∙◌, arith}
use Rattle.std.specs.List.{enumerate_from, flat_map, range_with_len}
use Rattle.std.proofs.Math.Nat.{mul-le-mul_right, suc-mul}
use Rattle.std.proofs.lemmas.List.Elements.{All-cons, All-filter, All-map, All-nil, Contains-get_or}
use Rattle.std.proofs.lemmas.List.FromFn.{get_or-enumerate_from, get_or-map-range_with_len, length-enumerate_from}
use Rattle.scope_types.specs.CallPaths.{ColumnPath}
use Rattle.scope_types.specs.Columns.{column_of, paths_of_event}
use Rattle.scope_types.specs.Order.{path_order}
use Rattle.tree_types.specs.Nodes.{no_parent, nodes}
use Rattle.tree_types.specs.Paths.{Path}
use Rattle.tree_types.specs.Planes.{context_plane, node_values, other_than_zero, profile_entries, profile_entry, profile_plane}
use Rattle.tree_types.specs.Values.{columns_below, counts_for, value}
use Rattle.tree_types.specs.declared.content.Kind.{Kind}
use Rattle.tree_types.specs.declared.content.Kind.TheVariants.{Exclusive, Frame, Inclusive}
use Rattle.tree_types.specs.declared.content.ProfileEntry.{ProfileEntry}
use Rattle.tree_types.proofs.Counting.{one}
use Rattle.tree_types.proofs.NodeLaws.{node_is_prefix}
use Rattle.tree_types.proofs.Selecting.{filter_of_flat_map, filter_of_map, same_map}
use Rattle.tree_types.proofs.Sorting.{has}
use Rattle.prof_db.specs.private.EventParts.{event_numbers, hart_list, new_number, renumbered_entry}
use Rattle.prof_db.proofs.EventKept.{keeps, keeps_is, kept_are, no_count}
use Rattle.prof_db.proofs.EventNumbers.{number_at}
use Rattle.prof_db.proofs.EventValues.{value_is}
use Rattle.prof_db.proofs.Filtered.{kept_more, numbered_anew}
use Rattle.prof_db.proofs.OwnNames.{all_lists}

-- ---- the nodes of entries

three_inside : (n : ℕ) (a b c : ProfileEntry) → a.node < n → b.node < n → c.node < n → All (λ (e : ProfileEntry). e.node < n) (a ∷ b ∷ c ∷ [])
three_inside n a b c one two three =
    All-cons (λ (e : ProfileEntry). e.node < n) a (b ∷ c ∷ []) one
    (All-cons (λ (e : ProfileEntry). e.node < n) b (c ∷ []) two
    (All-cons (λ (e : ProfileEntry). e.node < n) c [] three (All-nil (λ (e : ProfileEntry). e.node < n))))

module _ (period : ℕ → ℕ) (ps : List ColumnPath) where
  pub nodes_inside : (column : ℕ) → All (λ e. e.node < length (nodes ps)) (profile_entries period ps column)
  unfolding profile_entries
  nodes_inside column =
      All-filter (λ e. not (e.value == 0)) (λ e. e.node < length (nodes ps)) (flat_map (node_values period ps column) (enumerate_from 0 (nodes ps)))
      (all_lists (λ (e : ProfileEntry). e.node < length (nodes ps)) (node_values period ps column) (enumerate_from 0 (nodes ps)) each)
    where
      each : All (λ (x : ℕ × Path). All (λ (e : ProfileEntry). e.node < length (nodes ps)) (node_values period ps column x)) (enumerate_from 0 (nodes ps))
      each i d lt =
          let long = length-enumerate_from 0 (nodes ps) in
          let at : (get_or (enumerate_from 0 (nodes ps)) i d).0 ≡ 0 + i = ap (λ (x : ℕ × Path). x.0) (get_or-enumerate_from 0 (nodes ps) i d (omega (arith, lt, long))) in
          let inside : (get_or (enumerate_from 0 (nodes ps)) i d).0 < length (nodes ps) = omega (arith, at, lt, long) in
          let x : ℕ × Path = get_or (enumerate_from 0 (nodes ps)) i d in
          three_inside (length (nodes ps)) (entry x Exclusive) (entry x Frame) (entry x Inclusive) inside inside inside
        where
          entry : ℕ × Path → Kind → ProfileEntry
          entry x kind = profile_entry x.0 kind (value (period column) ps column x.1 kind)

  pub plane_inside : (columns : ℕ) → All (λ list. All (λ e. e.node < length (nodes ps)) list) (profile_plane period columns ps)
  plane_inside columns =
      All-map (λ (list : List ProfileEntry). All (λ e. e.node < length (nodes ps)) list) (profile_entries period ps) (columns_below columns)
      (λ i d lt. nodes_inside (get_or (columns_below columns) i d))

-- ---- the columns of the event

module _ (events place : ℕ) (lt : place < events) (ps : List ColumnPath) (period : ℕ → ℕ) (p : ℕ) (own : (h : ℕ) → period (column_of events h place) ≡ p)
    (positive : 0 < p) (harts : ℕ) (below : All (λ q. q.column < harts) (paths_of_event events place ps)) (few : length (nodes ps) ≤ no_parent) where
  abbrev mine : List ColumnPath
  mine = paths_of_event events place ps

  abbrev ns : List Path
  ns = nodes ps

  abbrev keep : Path → Bool
  keep = keeps events place lt ps period p own positive harts below

  abbrev numbers : List ℕ
  numbers = event_numbers events place (context_plane period (harts * events) ps)

  abbrev rank : ℕ → ℕ
  rank = new_number numbers

  rank_is : (i : ℕ) → i ≤ length ns → rank i ≡ length (filter keep (take i ns))
  rank_is = number_at events place lt ps period p own positive harts below few

  abbrev to : ProfileEntry → ProfileEntry
  to = renumbered_entry numbers

  abbrev other : ProfileEntry → Bool
  other e = not (e.value == 0)

  module _ (h : ℕ) where
    abbrev column : ℕ
    column = column_of events h place

    abbrev all_values : ℕ × Path → List ProfileEntry
    all_values x = other_than_zero (node_values period ps column x)

    abbrev own_values : ℕ × Path → List ProfileEntry
    own_values x = other_than_zero (node_values (λ c. p) mine h x)

    value_same : (n : Path) (kind : Kind) → value (period column) ps column n kind ≡ value p mine h n kind
    value_same n kind = value_is events place lt ps period p own h n kind

    kept_values : (j : ℕ) (n : Path) → map to (all_values (j, n)) ≡ own_values (rank j, n)
    kept_values j n =
        sym (filter_of_map other to (node_values period ps column (j, n)))
        ∙ (λ i. filter other (profile_entry (rank j) Exclusive (value_same n Exclusive i) ∷ profile_entry (rank j) Frame (value_same n Frame i) ∷ profile_entry (rank j) Inclusive (value_same n Inclusive i) ∷ []))

    left_values : (j : ℕ) (n : Path) → 0 < length n → keep n ≡ false → all_values (j, n) ≡ []
    left_values j n some e =
        let absent : has path_order n (nodes mine) ≡ false = sym (keeps_is events place lt ps period p own positive harts below n some) ∙ e in
        let none : (kind : Kind) → value (period column) ps column n kind ≡ 0 = λ kind.
        value_same n kind ∙ ap (λ (k : ℕ). p * k) (no_count mine n some absent (counts_for kind) h) ∙ (let z : p * 0 ≡ 0 = omega arith in z) in
        λ i. filter other (profile_entry j Exclusive (none Exclusive i) ∷ profile_entry j Frame (none Frame i) ∷ profile_entry j Inclusive (none Inclusive i) ∷ [])

    some_at : (k : ℕ) → k < length ns → 0 < length (get_or ns k [])
    some_at k inside = (node_is_prefix ps (get_or ns k []) (Contains-get_or ns k [] inside)).2.some

    entries_are : map to (profile_entries period ps column) ≡ profile_entries (λ c. p) mine h
    unfolding profile_entries
    entries_are =
        let kept = kept_are events place lt ps period p own positive harts below in
        let first : rank 0 ≡ 0 = rank_is 0 (omega arith) in
        ap (map to) (filter_of_flat_map other (node_values period ps column) (enumerate_from 0 ns))
        ∙ numbered_anew keep to all_values own_values rank ns 0 []
        (λ k inside e. kept_values (0 + k) (get_or ns k []))
        (λ k inside e. left_values (0 + k) (get_or ns k []) (some_at k inside) e)
        (λ k inside. ranked k inside)
        ∙ (λ i. flat_map own_values (enumerate_from (first i) (kept i)))
        ∙ sym (filter_of_flat_map other (node_values (λ c. p) mine h) (enumerate_from 0 (nodes mine)))
      where
        ranked : (k : ℕ) → k < length ns → rank (0 + k + 1) ≡ rank (0 + k) + one (keep (get_or ns k []))
        ranked k inside =
            let start : 0 + k ≡ k = omega arith in
            ap (λ (j : ℕ). rank (j + 1)) start ∙ rank_is (k + 1) (omega (arith, inside)) ∙ kept_more keep ns k [] inside
            ∙ ap (λ (j : ℕ). j + one (keep (get_or ns k []))) (sym (ap rank start ∙ rank_is k (omega (arith, inside))))

  column_below : (h : ℕ) → h < harts → column_of events h place < harts * events
  column_below h less =
      let next = suc-mul h events in
      let up : suc h * events ≤ harts * events = mul-le-mul_right events (let a : suc h ≤ harts = omega (arith, less) in a) in
      omega (arith, next, up, lt)

  hart_is : (h : ℕ) → h < harts → hart_list events place numbers (profile_plane period (harts * events) ps) h ≡ profile_entries (λ c. p) mine h
  hart_is h less =
      ap (map to) (get_or-map-range_with_len (profile_entries period ps) 0 (harts * events) (column_of events h place) (column_of events h place) [] (column_below h less) (omega arith))
      ∙ entries_are h

  pub columns_are : map (hart_list events place numbers (profile_plane period (harts * events) ps)) (range_with_len 0 harts) ≡ profile_plane (λ c. p) harts mine
  columns_are = same_map (hart_list events place numbers (profile_plane period (harts * events) ps)) (profile_entries (λ c. p) mine) 0 harts (λ h le less. hart_is h (omega (arith, less)))
