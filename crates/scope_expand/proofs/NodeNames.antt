-- The names of a tree's nodes are those of its paths.
use Rattle.std.proofs.Common.{◌≡◌, List, [], ◌∷◌, ◌++◌, map, fold, sym, ap, ◌∙◌, append_assoc, append-nil}
use Rattle.std.specs.Prelude.{◌==◌, if◌then◌else◌, slice_index_or, Result, Ok, Err, IfOk}
use Rattle.std.specs.List.{flat_map}
use Rattle.std.proofs.lemmas.List.Concat.{flat_map-append}
use Rattle.scope_types.specs.declared.scope.Scope.{Scope}
use Rattle.scope_types.specs.CallPaths.{ColumnPath}
use Rattle.tree_types.specs.declared.content.Names.{Names}
use Rattle.tree_types.specs.declared.content.Node.{Node}
use Rattle.tree_types.specs.Ascending.{ascending}
use Rattle.tree_types.specs.Naming.{Naming, proc_order, file_order, scope_procs, scope_files, procs_used, files_used}
use Rattle.tree_types.specs.Database.{names_used}
use Rattle.tree_types.specs.Nodes.{nodes, no_parent, own_scope}
use Rattle.tree_types.specs.Paths.{Path}
use Rattle.tree_types.specs.PathsOf.{path_below, tree_paths}
use Rattle.tree_types.proofs.TreePaths.{own_scope_last}
use Rattle.scope_expand.specs.TreeNames.{named_proc, named_file, node_procs, node_files, node_names}

own_below : (paths : List Path) (n : Node) → own_scope (path_below paths n) ≡ n.scope
own_below paths n = own_scope_last (if n.parent == no_parent then [] else slice_index_or paths n.parent []) n.scope

module _ {A : Type 0} (of : Scope → List A) where
  abbrev of_path : Path → List A
  of_path path = of (own_scope path)

  abbrev of_node : Node → List A
  of_node n = of n.scope

  abbrev put_path : List Path → Node → List Path
  put_path paths n = paths ++ path_below paths n ∷ []

  -- what the paths so far have, and what the rest of the nodes has
  from : (paths : List Path) (ns : List Node) → flat_map of_path (fold put_path paths ns) ≡ flat_map of_path paths ++ flat_map of_node ns
  from paths [] = sym (append-nil (flat_map of_path paths))
  from paths (n ∷ ns) =
      let own : of_path (path_below paths n) ++ [] ≡ of_node n = append-nil (of_path (path_below paths n)) ∙ ap of (own_below paths n) in
      let one : flat_map of_path (paths ++ path_below paths n ∷ []) ≡ flat_map of_path paths ++ of_node n =
      flat_map-append of_path paths (path_below paths n ∷ []) ∙ ap (λ (l : List A). flat_map of_path paths ++ l) own in
      from (paths ++ path_below paths n ∷ []) ns ∙ ap (λ (l : List A). l ++ flat_map of_node ns) one
      ∙ append_assoc (flat_map of_path paths) (of_node n) (flat_map of_node ns)

  of_tree : (ns : List Node) → flat_map of_path (tree_paths ns) ≡ flat_map of_node ns
  unfolding tree_paths
  of_tree ns = from [] ns

-- the names of nodes whose paths are those of call paths
names_of_paths : (naming : Naming) (ns : List Node) (paths : List ColumnPath) (names : Names) → tree_paths ns ≡ nodes paths
    → names ≡ node_names naming ns → names ≡ names_used naming paths
unfolding procs_used files_used
names_of_paths naming ns paths names same is =
    let procs : ascending proc_order (node_procs ns) ≡ procs_used (nodes paths) =
    ap (ascending proc_order) (sym (of_tree scope_procs ns) ∙ ap (flat_map (λ (n : Path). scope_procs (own_scope n))) same) in
    let files : ascending file_order (node_files ns) ≡ files_used (nodes paths) =
    ap (ascending file_order) (sym (of_tree scope_files ns) ∙ ap (flat_map (λ (n : Path). scope_files (own_scope n))) same) in
    is ∙ (λ i. record { procs = map (named_proc naming) (procs i); files = map (named_file naming) (files i) })

pub names_of_tree : (naming : Naming) (ns : List Node) (paths : List ColumnPath) {E : Type 0} (result : Result Names E)
    → IfOk result (λ names. names ≡ node_names naming ns) → tree_paths ns ≡ nodes paths → IfOk result (λ names. names ≡ names_used naming paths)
names_of_tree naming ns paths (Ok names) is same = names_of_paths naming ns paths names same is
names_of_tree naming ns paths (Err e) is same = is
