-- The values of one event are those of its columns: which of a node's lists they are in, by hart.
use Rattle.std.proofs.Common.{◌≡◌, ℕ, ◌+◌, ◌*◌, ◌/◌, ◌%◌, ◌<◌, ◌==◌, ◌&&◌, not, Bool, true, false, List, [], ◌++◌, map, filter, count_by, refl, sym, ap, ◌∙◌}
use Rattle.std.proofs.lemmas.Bool.{and_from, and_parts, eq-eqb, eqb-true}
use Rattle.std.proofs.lemmas.Nat.{div-add-mod', div-mul-add, mod-mul-add}
use Rattle.scope_types.specs.CallPaths.{ColumnPath}
use Rattle.scope_types.specs.Columns.{column_of, hart_of_column, paths_of_event, place_of_column}
use Rattle.tree_types.specs.declared.content.ContextEntry.{ContextEntry}
use Rattle.tree_types.specs.declared.content.Kind.{Kind}
use Rattle.tree_types.specs.declared.content.Kind.TheVariants.{Exclusive, Frame, Inclusive}
use Rattle.tree_types.specs.Paths.{Path, after_prefix, rest_passes}
use Rattle.tree_types.specs.Planes.{context_entries, context_entries_of_kind, context_entry, kinds}
use Rattle.tree_types.specs.Values.{columns_below, count_below, counts_for, value}
use Rattle.tree_types.proofs.Counting.{count_by-filter, one}
use Rattle.tree_types.proofs.PathsAgain.{sum_by-map}
use Rattle.tree_types.proofs.Selecting.{filter_of_flat_map, filter_of_map, filters_swap, map_of_flat_map, map_of_map, same_map}
use Rattle.tree_types.proofs.Sorting.{bool_same}
use Rattle.prof_db.specs.private.EventParts.{event_list, is_of_event, with_hart}
use Rattle.prof_db.proofs.Ranges.{with_rest}

and_again : (a b c : Bool) → (a && (b && c)) ≡ ((a && b) && c)
and_again true b c = refl
and_again false b c = refl

module _ (events place : ℕ) (lt : place < events) where
  abbrev column : ℕ → ℕ
  column hart = column_of events hart place

  -- a column is of the event and of a hart where it is theirs
  column_is : (c h : ℕ) → (place_of_column events c == place && hart_of_column events c == h) ≡ (c == column h)
  column_is c h = bool_same (c % events == place && c / events == h) (c == h * events + place)
      (λ e.
      let both = and_parts (c % events == place) (c / events == h) e in
      let rest : c % events ≡ place = eqb-true (c % events) place both.0 in
      let times : c / events ≡ h = eqb-true (c / events) h both.1 in
      eq-eqb c (h * events + place) (sym (div-add-mod' c events) ∙ (λ i. times i * events + rest i)))
      (λ e.
      let is : c ≡ h * events + place = eqb-true c (h * events + place) e in
      and_from (c % events == place) (c / events == h)
      (eq-eqb (c % events) place (ap (λ (k : ℕ). k % events) is ∙ mod-mul-add h events place lt))
      (eq-eqb (c / events) h (ap (λ (k : ℕ). k / events) is ∙ div-mul-add h events place lt)))

  module _ (ps : List ColumnPath) where
    abbrev mine : List ColumnPath
    mine = paths_of_event events place ps

    pub count_is : (test : Path → Bool) (h : ℕ) (n : Path) → count_below test mine h n ≡ count_below test ps (column h) n
    unfolding count_below
    count_is test h n =
        sum_by-map (λ (p : ColumnPath). one (p.column == h && rest_passes test (after_prefix n p.path))) (λ (p : ColumnPath). record { column = hart_of_column events p.column; path = p.path })
        (filter (λ (p : ColumnPath). place_of_column events p.column == place) ps)
        ∙ count_by-filter (λ (p : ColumnPath). place_of_column events p.column == place) (λ p. hart_of_column events p.column == h && rest_passes test (after_prefix n p.path)) ps
        ∙ (λ i. count_by (λ (p : ColumnPath). each p i) ps)
      where
        each : (p : ColumnPath) → (place_of_column events p.column == place && (hart_of_column events p.column == h && rest_passes test (after_prefix n p.path))) ≡ (p.column == column h && rest_passes test (after_prefix n p.path))
        each p =
            and_again (place_of_column events p.column == place) (hart_of_column events p.column == h) (rest_passes test (after_prefix n p.path))
            ∙ ap (λ b. b && rest_passes test (after_prefix n p.path)) (column_is p.column h)

    module _ (period : ℕ → ℕ) (p : ℕ) (own : (h : ℕ) → period (column h) ≡ p) where
      pub value_is : (h : ℕ) (n : Path) (kind : Kind) → value (period (column h)) ps (column h) n kind ≡ value p mine h n kind
      value_is h n kind = λ i. own h i * sym (count_is (counts_for kind) h n) i

      -- ---- a node's list

      module _ (harts : ℕ) (n : Path) where
        abbrev at : Kind → ℕ → ContextEntry
        at kind c = context_entry kind c (value (period c) ps c n kind)

        kind_is : (kind : Kind) → event_list events place (context_entries_of_kind period (harts * events) ps n kind) ≡ context_entries_of_kind (λ c. p) harts mine n kind
        kind_is kind =
            let cs : List ℕ = columns_below (harts * events) in
            let of : ContextEntry → Bool = is_of_event events place in
            let to : ContextEntry → ContextEntry = with_hart events in
            let other : ContextEntry → Bool = λ e. not (e.value == 0) in
            ap (map to) (filters_swap of other (map (at kind) cs))
            ∙ sym (filter_of_map other to (filter of (map (at kind) cs)))
            ∙ ap (λ (l : List ContextEntry). filter other (map to l)) (filter_of_map of (at kind) cs)
            ∙ ap (filter other) (map_of_map to (at kind) (filter (λ c. place_of_column events c == place) cs)
            ∙ ap (map (λ c. to (at kind c))) (with_rest events place lt harts)
            ∙ map_of_map (λ c. to (at kind c)) column (columns_below harts)
            ∙ same_map (λ h. to (at kind (column h))) (λ h. context_entry kind h (value p mine h n kind)) 0 harts
            (λ h le below. λ i. context_entry kind (div-mul-add h events place lt i) (value_is h n kind i)))

        pub list_is : event_list events place (context_entries period (harts * events) ps n) ≡ context_entries (λ c. p) harts mine n
        unfolding context_entries
        list_is =
            ap (map (with_hart events)) (filter_of_flat_map (is_of_event events place) (context_entries_of_kind period (harts * events) ps n) kinds)
            ∙ map_of_flat_map (with_hart events) (λ kind. filter (is_of_event events place) (context_entries_of_kind period (harts * events) ps n kind)) kinds
            ∙ (λ i. kind_is Exclusive i ++ (kind_is Frame i ++ (kind_is Inclusive i ++ [])))
