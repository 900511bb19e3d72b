-- The nodes that are kept of one event, with the new numbers of their parents, are the node list of the event's paths.
use Rattle.std.proofs.Common.{◌≡◌, ℕ, ◌+◌, ◌*◌, ◌<◌, ◌≤◌, ◌==◌, not, Bool, true, false, cond, List, [], ◌∷◌, ◌++◌, length, get_or, take, map, filter, All, refl, sym, ap, ◌∙◌, arith, append_assoc, inl, inr}
use Rattle.std.specs.Prelude.{◌≢◌}
use Rattle.std.proofs.lemmas.Bool.{cases_eq, eq-eqb, ne_eqb}
use Rattle.std.proofs.lemmas.List.{get_or_default, get_or-map, length-map, take-map}
use Rattle.std.proofs.lemmas.List.Elements.{Contains-get_or}
use Rattle.std.proofs.lemmas.List.FromFn.{get_or-map-range_with_len}
use Rattle.scope_types.specs.CallPaths.{ColumnPath}
use Rattle.scope_types.specs.Columns.{column_of, paths_of_event}
use Rattle.scope_types.proofs.Orders.{path_order_total, path_order_tells}
use Rattle.tree_types.specs.Database.{node_list}
use Rattle.tree_types.specs.Laws.{IsNonemptyPrefix, node}
use Rattle.tree_types.specs.Nodes.{no_parent, node_number, nodes, own_scope, parent_number, parent_path}
use Rattle.tree_types.specs.Paths.{Path}
use Rattle.tree_types.specs.Planes.{context_entries, context_plane}
use Rattle.tree_types.specs.Tree.{node_at}
use Rattle.tree_types.specs.declared.content.ContextEntry.{ContextEntry}
use Rattle.tree_types.specs.declared.content.Node.{Node}
use Rattle.tree_types.proofs.NodeLaws.{node_is_prefix, prefix_is_node}
use Rattle.tree_types.proofs.Parents.{has_parent, number_is}
use Rattle.tree_types.proofs.Selecting.{filter_of_map, map_of_map}
use Rattle.tree_types.proofs.Sorting.{has-from_Contains, Contains-from_has}
use Rattle.tree_types.proofs.TreeLaws.{nodes_listed}
use Rattle.tree_types.proofs.TreePaths.{parent_path_front}
use Rattle.prof_db.specs.private.EventParts.{event_list, event_lists, event_numbers, event_number_of, has_event, is_left_out, kept_node, kept_nodes, new_number, renumbered}
use Rattle.prof_db.proofs.EventKept.{keeps, keeps_is, kept_are}
use Rattle.prof_db.proofs.EventValues.{list_is}
use Rattle.prof_db.proofs.Filtered.{kept_at, kept_before, left_out, made_by_number}

module _ (events place : ℕ) (lt : place < events) (ps : List ColumnPath) (period : ℕ → ℕ) (p : ℕ) (own : (h : ℕ) → period (column_of events h place) ≡ p)
    (positive : 0 < p) (harts : ℕ) (below : All (λ q. q.column < harts) (paths_of_event events place ps)) (few : length (nodes ps) ≤ no_parent) where
  abbrev mine : List ColumnPath
  mine = paths_of_event events place ps

  abbrev ns : List Path
  ns = nodes ps

  abbrev keep : Path → Bool
  keep = keeps events place lt ps period p own positive harts below

  abbrev lists : List (List ContextEntry)
  lists = context_plane period (harts * events) ps

  abbrev numbers : List ℕ
  numbers = event_numbers events place lists

  abbrev kept : filter keep ns ≡ nodes mine
  kept = kept_are events place lt ps period p own positive harts below

  -- the lists that are kept
  pub lists_are : event_lists events place lists ≡ context_plane (λ c. p) harts mine
  lists_are =
      let ctx : Path → List ContextEntry = context_entries period (harts * events) ps in
      ap (map (event_list events place)) (filter_of_map (has_event events place) ctx ns)
      ∙ map_of_map (event_list events place) ctx (filter keep ns)
      ∙ (λ i. map (λ n. list_is events place lt ps period p own harts n i) (kept i))

  -- the new numbers
  pub number_at : (i : ℕ) → i ≤ length ns → new_number numbers i ≡ kept_before keep ns i
  number_at i le =
      let ctx : Path → List ContextEntry = context_entries period (harts * events) ps in
      let long = length-map ns ctx in
      get_or-map-range_with_len (event_number_of events place lists) 0 (length lists + 1) i i 0 (omega (arith, le, long)) (omega arith)
      ∙ ap (λ (l : List (List ContextEntry)). length (filter (has_event events place) l)) (take-map ctx i ns)
      ∙ ap length (filter_of_map (has_event events place) ctx (take i ns))
      ∙ length-map (filter keep (take i ns)) ctx

  left_out_is : (i : ℕ) → i < length ns → is_left_out numbers i ≡ not (keep (node ns i))
  left_out_is i inside =
      (λ t. number_at i (omega (arith, inside)) t == number_at (i + 1) (omega (arith, inside)) t)
      ∙ left_out keep ns i [] inside

  -- ---- the parent of a node that is kept

  abbrev listed : List Path → Path → Node
  listed all n = record { parent = parent_number all n; scope = own_scope n }

  module _ (i : ℕ) (inside : i < length ns) (is : keep (node ns i) ≡ true) where
    abbrev n : Path
    n = node ns i

    some : 0 < length n
    some = (node_is_prefix ps n (Contains-get_or ns i [] inside)).2.some

    abbrev IsParent : Type 0
    IsParent = cond (parent_number ns n == no_parent) no_parent (new_number numbers (parent_number ns n)) ≡ parent_number (nodes mine) n

    root_parent : length n ≡ 1 → IsParent
    root_parent root =
        let h = has_parent ps i inside in
        ap (λ b. cond b no_parent (new_number numbers (parent_number ns n))) (eq-eqb (parent_number ns n) no_parent (h.root root))
        ∙ sym (ap (λ b. cond b no_parent (node_number (nodes mine) (parent_path n))) (eq-eqb (length n) 1 root))

    inner_parent : length n ≢ 1 → IsParent
    inner_parent inner =
        let more : 1 < length n = more_than_one (length n) some inner in
        let h = has_parent ps i inside in
        let j : ℕ = parent_number ns n in
        let before : j < i = h.before more in
        let within : j < length ns = omega (arith, before, inside) in
        let l = h.longer more in
        let up : Path = node ns j in
        let path_is : parent_path n ≡ up = ap parent_path l.1 ∙ parent_path_front up l.0 in
        let up_some : 0 < length up = (node_is_prefix ps up (Contains-get_or ns j [] within)).2.some in
        let q = node_is_prefix mine n (Contains-from_has path_order_total path_order_tells n (nodes mine) (sym (keeps_is events place lt ps period p own positive harts below n some) ∙ is)) in
        let prefix : IsNonemptyPrefix up q.0.path = record { some = up_some; rest = l.0 ∷ q.2.rest; parts = q.2.parts ∙ ap (λ (x : Path). x ++ q.2.rest) l.1 ∙ append_assoc up (l.0 ∷ []) q.2.rest } in
        let up_kept : keep up ≡ true =
        keeps_is events place lt ps period p own positive harts below up up_some
        ∙ has-from_Contains path_order_total path_order_tells up (nodes mine) (prefix_is_node mine q.0 up q.1 prefix) in
        let at = kept_at keep ns j [] within up_kept in
        let k : ℕ = kept_before keep ns j in
        let long : length (filter keep ns) ≡ length (nodes mine) = ap length kept in
        let there : k < length (nodes mine) = (let less = at.0 in omega (arith, less, long)) in
        let element : get_or (nodes mine) k up ≡ up = get_or_default (nodes mine) k up [] there ∙ ap (λ (l : List Path). get_or l k []) (sym kept) ∙ at.1 in
        ap (λ b. cond b no_parent (new_number numbers j)) (ne_eqb j no_parent (λ e. absurd (omega (arith, e, within, few))))
        ∙ number_at j (omega (arith, within))
        ∙ sym (ap (λ b. cond b no_parent (node_number (nodes mine) (parent_path n))) (ne_eqb (length n) 1 inner)
        ∙ ap (node_number (nodes mine)) path_is ∙ number_is mine k up there element)
      where
        more_than_one : (m : ℕ) → 0 < m → m ≢ 1 → 1 < m
        more_than_one m positive apart = omega arith

    parent_is : IsParent
    parent_is = elim (cases_eq (length n) 1) [
      | inl root ↦ root_parent root
      | inr inner ↦ inner_parent inner
    ]

    renumbered_is : renumbered numbers (node_at (node_list ps) i) ≡ listed (nodes mine) n
    renumbered_is =
        ap (renumbered numbers) (get_or-map (listed ns) ns i [] _ inside)
        ∙ (λ t. record { parent = parent_is t; scope = own_scope n })

  -- ---- all nodes

  pub nodes_are : kept_nodes numbers (node_list ps) (length (node_list ps)) ≡ node_list mine
  nodes_are =
      ap (kept_nodes numbers (node_list ps)) (nodes_listed ps)
      ∙ made_by_number keep (kept_node numbers (node_list ps)) (listed (nodes mine)) ns 0 [] each
      ∙ ap (map (listed (nodes mine))) kept
    where
      one_is : (k : ℕ) → k < length ns → (b : Bool) → keep (node ns k) ≡ b
          → cond (not b) [] (renumbered numbers (node_at (node_list ps) k) ∷ []) ≡ cond b (listed (nodes mine) (node ns k) ∷ []) []
      one_is k inside true e = ap (λ (n : Node). n ∷ []) (renumbered_is k inside e)
      one_is k inside false e = refl

      each : (k : ℕ) → k < length ns → kept_node numbers (node_list ps) (0 + k) ≡ cond (keep (get_or ns k [])) (listed (nodes mine) (get_or ns k []) ∷ []) []
      each k inside =
          let start : 0 + k ≡ k = omega arith in
          ap (kept_node numbers (node_list ps)) start
          ∙ ap (λ b. cond b [] (renumbered numbers (node_at (node_list ps) k) ∷ [])) (left_out_is k inside)
          ∙ one_is k inside (keep (node ns k)) refl
