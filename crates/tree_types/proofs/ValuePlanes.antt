-- The lists of a tree's values are the planes of its paths.
use Rattle.std.proofs.Common.{◌≡◌, ℕ, ◌<◌, ◌≤◌, ◌==◌, ◌&&◌, Bool, true, false, not, cond, List, [], ◌∷◌, ◌++◌, length, map, filter, refl, sym, ap, ◌∙◌, arith}
use Rattle.std.specs.Prelude.{◌≢◌}
use Rattle.std.specs.List.{flat_map, range_with_len, enumerate_from}
use Rattle.std.proofs.lemmas.Bool.{eq-eqb, ne_eqb}
use Rattle.std.proofs.lemmas.List.Concat.{flat_map_single}
use Rattle.scope_types.specs.Alike.{Alike}
use Rattle.scope_types.specs.CallPaths.{ColumnPath}
use Rattle.tree_types.specs.declared.content.Kind.{Kind}
use Rattle.tree_types.specs.declared.content.Kind.TheVariants.{Exclusive, Frame, Inclusive}
use Rattle.tree_types.specs.declared.content.ContextEntry.{ContextEntry}
use Rattle.tree_types.specs.declared.node_values.NodeValue.{NodeValue}
use Rattle.tree_types.specs.Database.{node_list}
use Rattle.tree_types.specs.Nodes.{nodes, no_parent}
use Rattle.tree_types.specs.NodeValues.{kind_rank, node_value, values_for_column, values_at_node, nonzero, values_of}
use Rattle.tree_types.specs.Paths.{Path}
use Rattle.tree_types.specs.PathsOf.{tree_paths}
use Rattle.tree_types.specs.Planes.{node_values, other_than_zero, profile_entries, context_entries_of_kind, context_entries, profile_plane, context_plane}
use Rattle.tree_types.specs.Tree.{CountedTree, node_path, paths_in}
use Rattle.tree_types.specs.ValuePlanes.{in_profile, in_context, column_entries, kind_entries, node_entries, entries_by_column, entries_by_node}
use Rattle.tree_types.specs.Values.{columns_below}
use Rattle.tree_types.proofs.PathSteps.{as_many_paths}
use Rattle.tree_types.proofs.PathsAgain.{contexts_alike, nodes_alike, profiles_alike}
use Rattle.tree_types.proofs.Selecting.{filter_of_flat_map, filter_of_map, map_of_flat_map, map_of_map, flat_map_of_map, filters_swap, same_flat_map, none_of_flat_map, one_of_flat_map, same_map, numbered, by_index}
use Rattle.tree_types.proofs.TreePaths.{tree_paths_is}

module _ (period : ℕ → ℕ) (t : CountedTree) where
  abbrev one : ℕ → ℕ → Kind → NodeValue
  one = node_value period t

  abbrev all : List NodeValue
  all = flat_map (values_at_node period t) (range_with_len 0 (length t.nodes))

  abbrev entries : List NodeValue
  entries = nonzero all

  -- ---- by column

  -- the tests of three values that all answer alike
  three_kept : (b : Bool) (x y z : NodeValue) → cond b (x ∷ cond b (y ∷ cond b (z ∷ []) []) (cond b (z ∷ []) [])) (cond b (y ∷ cond b (z ∷ []) []) (cond b (z ∷ []) [])) ≡ cond b (x ∷ y ∷ z ∷ []) []
  three_kept true x y z = refl
  three_kept false x y z = refl

  of_column : (column node h : ℕ) → filter (λ v. v.column == column) (values_for_column period t node h) ≡ cond (h == column) (values_for_column period t node h) []
  of_column column node h = three_kept (h == column) (one node h Exclusive) (one node h Frame) (one node h Inclusive)

  own_values : (column node : ℕ) → column < t.columns → filter (λ v. v.column == column) (values_at_node period t node) ≡ values_for_column period t node column
  own_values column node lt =
      filter_of_flat_map (λ v. v.column == column) (values_for_column period t node) (columns_below t.columns)
      ∙ one_of_flat_map (λ h. filter (λ v. v.column == column) (values_for_column period t node h)) column 0 t.columns (omega arith) (omega arith)
      (λ h apart. of_column column node h ∙ ap (λ b. cond b (values_for_column period t node h) []) (ne_eqb h column apart))
      ∙ of_column column node column ∙ ap (λ b. cond b (values_for_column period t node column) []) (eq-eqb column column refl)

  column_is : (column : ℕ) → column < t.columns
      → column_entries entries column ≡ other_than_zero (flat_map (λ node. node_values period (paths_in t) column (node, node_path t.nodes node)) (range_with_len 0 (length t.nodes)))
  column_is column lt =
      let mine : NodeValue → Bool = λ v. v.column == column in
      ap (map in_profile) (filters_swap mine (λ v. not (v.value == 0)) all)
      ∙ sym (filter_of_map (λ e. not (e.value == 0)) in_profile (filter mine all))
      ∙ ap (λ (l : List NodeValue). other_than_zero (map in_profile l)) (filter_of_flat_map mine (values_at_node period t) (range_with_len 0 (length t.nodes))
      ∙ same_flat_map (λ node. filter mine (values_at_node period t node)) (λ node. values_for_column period t node column) 0 (length t.nodes) (λ node le below. own_values column node lt))
      ∙ ap other_than_zero (map_of_flat_map in_profile (λ node. values_for_column period t node column) (range_with_len 0 (length t.nodes)))

  -- ---- by node

  module _ (node : ℕ) (kind : Kind) where
    abbrev of_kind : NodeValue → Bool
    of_kind v = v.node == node && kind_rank v.kind == kind_rank kind

    other_node : (n : ℕ) → n ≢ node → filter of_kind (values_at_node period t n) ≡ []
    other_node n apart =
        filter_of_flat_map of_kind (values_for_column period t n) (columns_below t.columns)
        ∙ none_of_flat_map (λ h. filter of_kind (values_for_column period t n h)) 0 t.columns (λ h le. none h)
      where
        none : (h : ℕ) → filter of_kind (values_for_column period t n h) ≡ []
        none h = ap (λ b. cond (b && 0 == kind_rank kind) (one n h Exclusive ∷ cond (b && 1 == kind_rank kind) (one n h Frame ∷ cond (b && 2 == kind_rank kind) (one n h Inclusive ∷ []) []) (cond (b && 2 == kind_rank kind) (one n h Inclusive ∷ []) [])) (cond (b && 1 == kind_rank kind) (one n h Frame ∷ cond (b && 2 == kind_rank kind) (one n h Inclusive ∷ []) []) (cond (b && 2 == kind_rank kind) (one n h Inclusive ∷ []) []))) (ne_eqb n node apart)

    own_kind : (h : ℕ) → filter of_kind (values_for_column period t node h) ≡ one node h kind ∷ []
    own_kind h =
        ap (λ b. cond (b && 0 == kind_rank kind) (one node h Exclusive ∷ cond (b && 1 == kind_rank kind) (one node h Frame ∷ cond (b && 2 == kind_rank kind) (one node h Inclusive ∷ []) []) (cond (b && 2 == kind_rank kind) (one node h Inclusive ∷ []) [])) (cond (b && 1 == kind_rank kind) (one node h Frame ∷ cond (b && 2 == kind_rank kind) (one node h Inclusive ∷ []) []) (cond (b && 2 == kind_rank kind) (one node h Inclusive ∷ []) []))) (eq-eqb node node refl)
        ∙ by_case kind
      where
        by_case : (kind : Kind) → cond (0 == kind_rank kind) (one node h Exclusive ∷ cond (1 == kind_rank kind) (one node h Frame ∷ cond (2 == kind_rank kind) (one node h Inclusive ∷ []) []) (cond (2 == kind_rank kind) (one node h Inclusive ∷ []) [])) (cond (1 == kind_rank kind) (one node h Frame ∷ cond (2 == kind_rank kind) (one node h Inclusive ∷ []) []) (cond (2 == kind_rank kind) (one node h Inclusive ∷ []) [])) ≡ one node h kind ∷ []
        by_case Exclusive = refl
        by_case Frame = refl
        by_case Inclusive = refl

    kind_is : node < length t.nodes → kind_entries entries node kind ≡ context_entries_of_kind period t.columns (paths_in t) (node_path t.nodes node) kind
    kind_is lt =
        let some : ContextEntry → Bool = λ e. not (e.value == 0) in
        ap (map in_context) (filters_swap of_kind (λ v. not (v.value == 0)) all)
        ∙ sym (filter_of_map some in_context (filter of_kind all))
        ∙ ap (λ (l : List NodeValue). filter some (map in_context l)) (filter_of_flat_map of_kind (values_at_node period t) (range_with_len 0 (length t.nodes))
        ∙ one_of_flat_map (λ n. filter of_kind (values_at_node period t n)) node 0 (length t.nodes) (omega arith) (omega arith) other_node
        ∙ filter_of_flat_map of_kind (values_for_column period t node) (columns_below t.columns)
        ∙ same_flat_map (λ h. filter of_kind (values_for_column period t node h)) (λ h. one node h kind ∷ []) 0 t.columns (λ h le below. own_kind h)
        ∙ flat_map_single (λ h. one node h kind) (columns_below t.columns))
        ∙ ap (filter some) (map_of_map in_context (λ h. one node h kind) (columns_below t.columns))

  node_is : (node : ℕ) → node < length t.nodes → node_entries entries node ≡ context_entries period t.columns (paths_in t) (node_path t.nodes node)
  unfolding context_entries
  node_is node lt =
      λ i. kind_is node Exclusive lt i ++ (kind_is node Frame lt i ++ (kind_is node Inclusive lt i ++ []))

  -- ---- the planes

  module _ (same : tree_paths t.nodes ≡ nodes (paths_in t)) where
    by_column : entries_by_column (values_of period t) ≡ profile_plane period t.columns (paths_in t)
    unfolding entries_by_column values_of profile_entries
    by_column = same_map (column_entries entries) (profile_entries period (paths_in t)) 0 t.columns (λ column le lt. column_is column (omega arith) ∙ sym (list column))
      where
        list : (column : ℕ) → profile_entries period (paths_in t) column ≡ other_than_zero (flat_map (λ node. node_values period (paths_in t) column (node, node_path t.nodes node)) (range_with_len 0 (length t.nodes)))
        list column =
            ap (λ (ns : List Path). other_than_zero (flat_map (node_values period (paths_in t) column) (enumerate_from 0 ns))) (sym same)
            ∙ ap (λ (ns : List (ℕ × Path)). other_than_zero (flat_map (node_values period (paths_in t) column) ns)) (numbered [] (tree_paths t.nodes))
            ∙ ap other_than_zero (flat_map_of_map (node_values period (paths_in t) column) (λ i. (i, node_path t.nodes i)) (range_with_len 0 (length (tree_paths t.nodes))))
            ∙ ap (λ (n : ℕ). other_than_zero (flat_map (λ node. node_values period (paths_in t) column (node, node_path t.nodes node)) (range_with_len 0 n))) (as_many_paths t.nodes)

    by_node : entries_by_node (values_of period t) ≡ context_plane period t.columns (paths_in t)
    unfolding entries_by_node values_of
    by_node =
        same_map (node_entries entries) (λ node. context_entries period t.columns (paths_in t) (node_path t.nodes node)) 0 (length t.nodes) (λ node le lt. node_is node (omega arith))
        ∙ ap (λ (n : ℕ). map (λ node. context_entries period t.columns (paths_in t) (node_path t.nodes node)) (range_with_len 0 n)) (sym (as_many_paths t.nodes))
        ∙ sym (by_index [] (context_entries period t.columns (paths_in t)) [] (tree_paths t.nodes))
        ∙ ap (map (context_entries period t.columns (paths_in t))) same

module _ (period : ℕ → ℕ) (t : CountedTree) (ps : List ColumnPath) (alike : Alike (paths_in t) ps) (is : t.nodes ≡ node_list ps) (few : length (nodes ps) ≤ no_parent) where
  same_nodes : tree_paths t.nodes ≡ nodes (paths_in t)
  same_nodes = ap tree_paths is ∙ tree_paths_is ps few ∙ sym (nodes_alike (paths_in t) ps alike)

  pub profiles_are : entries_by_column (values_of period t) ≡ profile_plane period t.columns ps
  profiles_are = by_column period t same_nodes ∙ profiles_alike period t.columns (paths_in t) ps alike

  pub contexts_are : entries_by_node (values_of period t) ≡ context_plane period t.columns ps
  contexts_are = by_node period t same_nodes ∙ contexts_alike period t.columns (paths_in t) ps alike

pub ruleset plane_laws = (profiles_are, contexts_are)
