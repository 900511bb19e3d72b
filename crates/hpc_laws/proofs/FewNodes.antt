-- The nodes of samples' call paths are no more than the scopes of the distinct raw paths' call paths.
use Rattle.std.proofs.Common.{◌≡◌, ℕ, zero, suc, ◌+◌, ◌<◌, ◌≤◌, List, [], ◌∷◌, ◌++◌, length, map, replicate, sum_by, All, refl, sym, ap, ap₂, ◌∙◌, arith}
use Rattle.std.specs.List.{enumerate_from, flat_map}
use Rattle.std.proofs.lemmas.Grind.{flat_map-append}
use Rattle.std.proofs.lemmas.List.{map-append}
use Rattle.std.proofs.lemmas.List.Sums.{sum_by-append, sum_by-cons}
use Rattle.scope_types.specs.declared.frame.Counted.{Counted}
use Rattle.scope_types.specs.declared.path.Entry.{Entry}
use Rattle.scope_types.specs.declared.scope.Scope.{Scope}
use Rattle.scope_types.specs.Alike.{Alike}
use Rattle.scope_types.specs.CallPaths.{ColumnPath, each_path, entry_path}
use Rattle.scope_types.specs.Distinct.{ColumnRaw, distinct, each_of_column, each_sample, path_scopes, scopes_in}
use Rattle.scope_types.specs.Raw.{Raw}
use Rattle.tree_types.specs.Nodes.{nodes}
use Rattle.tree_types.specs.Paths.{Path}
use Rattle.tree_types.proofs.PathsAgain.{sum_by-map}
use Rattle.run_profile.specs.Attribution.{sample_path}
use Rattle.hpc_laws.proofs.Apart.{SamplesAlike}

abbrev Tables : Type 0
Tables = List (List Counted)

-- what the laws of nodes say
abbrev pub NodesAlike : Type 0
NodesAlike = (ps qs : List ColumnPath) → Alike ps qs → nodes ps ≡ nodes qs

abbrev pub NodesFew : Type 0
NodesFew = (entries : List Entry) → length (nodes (each_path entries)) ≤ sum_by (λ e. length e.path) entries

module _ (expand : Raw → List Scope) where
  abbrev distinct_entry : ℕ → Counted → Entry
  distinct_entry column c = record { column = column; count = c.count; path = expand c.path }

  -- the entries of distinct paths, column by column
  abbrev distinct_entries : ℕ → Tables → List Entry
  distinct_entries first [] = []
  distinct_entries first (t ∷ tables) = map (distinct_entry first) t ++ distinct_entries (first + 1) tables

  copies : {X Y : Type 0} (f : X → Y) (n : ℕ) (x : X) → map f (replicate n x) ≡ replicate n (f x)
  copies f zero x = refl
  copies {X} {Y} f (suc n) x = ap (λ (ys : List Y). f x ∷ ys) (copies f n x)

  abbrev path_copies : Entry → List ColumnPath
  path_copies e = replicate e.count (entry_path e)

  column_paths : (column : ℕ) (cs : List Counted) → map (sample_path expand) (each_of_column (column, cs)) ≡ flat_map path_copies (map (distinct_entry column) cs)
  column_paths column [] = refl
  column_paths column (c ∷ cs) =
      let s : ColumnRaw = record { column = column; raw = c.path } in
      map-append (sample_path expand) (replicate c.count s) (each_of_column (column, cs))
      ∙ ap₂ (λ (a b : List ColumnPath). a ++ b) (copies (sample_path expand) c.count s) (column_paths column cs)

  paths_each : (first : ℕ) (tables : Tables) → map (sample_path expand) (flat_map each_of_column (enumerate_from first tables)) ≡ flat_map path_copies (distinct_entries first tables)
  paths_each first [] = refl
  paths_each first (t ∷ tables) =
      map-append (sample_path expand) (each_of_column (first, t)) (flat_map each_of_column (enumerate_from (first + 1) tables))
      ∙ ap₂ (λ (a b : List ColumnPath). a ++ b) (column_paths first t) (paths_each (first + 1) tables)
      ∙ sym (flat_map-append path_copies (map (distinct_entry first) t) (distinct_entries (first + 1) tables))

  abbrev scopes_of : Entry → ℕ
  scopes_of e = length e.path

  scopes_each : (first : ℕ) (tables : Tables) → sum_by scopes_of (distinct_entries first tables) ≡ scopes_in expand tables
  scopes_each first [] = refl
  scopes_each first (t ∷ tables) =
      let parts = sum_by-append scopes_of (map (distinct_entry first) t) (distinct_entries (first + 1) tables) in
      let one : sum_by scopes_of (map (distinct_entry first) t) ≡ sum_by (path_scopes expand) t = sum_by-map scopes_of (distinct_entry first) t in
      let rest = scopes_each (first + 1) tables in
      let all = sum_by-cons (sum_by (path_scopes expand)) t tables in
      omega (arith, parts, one, rest, all)

  pub few_nodes : SamplesAlike → NodesAlike → NodesFew → (harts : ℕ) (samples : List ColumnRaw) → All (λ s. s.column < harts) samples
      → length (nodes (map (sample_path expand) samples)) ≤ scopes_in expand (distinct harts samples)
  unfolding each_path
  few_nodes samples_alike nodes_alike nodes_few harts samples own =
      let tables : Tables = distinct harts samples in
      let each : nodes (map (sample_path expand) (each_sample tables)) ≡ nodes (each_path (distinct_entries 0 tables)) = ap nodes (paths_each 0 tables) in
      let same : nodes (map (sample_path expand) (each_sample tables)) ≡ nodes (map (sample_path expand) samples) =
      nodes_alike (map (sample_path expand) (each_sample tables)) (map (sample_path expand) samples) (samples_alike harts samples (sample_path expand) own) in
      let long : length (nodes (map (sample_path expand) samples)) ≡ length (nodes (each_path (distinct_entries 0 tables))) = ap (λ (ns : List Path). length ns) (sym same ∙ each) in
      let few = nodes_few (distinct_entries 0 tables) in
      let scopes = scopes_each 0 tables in
      omega (arith, long, few, scopes)
