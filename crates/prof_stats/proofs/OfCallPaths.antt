-- The summaries of a content, and their table, are those of the paths that it was made of.
use Rattle.std.proofs.Common.{◌≡◌, ℕ, ◌-◌, ◌<◌, ◌≤◌, List, ◌++◌, length, map, All, Contains, refl, ap, ◌∙◌}
use Rattle.std.specs.List.{flat_map}
use Rattle.scope_types.specs.Alike.{Alike}
use Rattle.scope_types.specs.CallPaths.{ColumnPath}
use Rattle.tree_types.specs.declared.content.Content.{Content}
use Rattle.tree_types.specs.declared.content.Kind.{Kind}
use Rattle.tree_types.specs.Database.{content_of, names_used, naming_in}
use Rattle.tree_types.specs.Naming.{Naming}
use Rattle.tree_types.specs.Nodes.{nodes, no_parent, own_scope}
use Rattle.tree_types.specs.Paths.{Path}
use Rattle.tree_types.specs.PathsOf.{paths_of}
use Rattle.tree_types.specs.TopDown.{label}
use Rattle.tree_types.specs.Values.{columns_below}
use Rattle.tree_types.proofs.NamesAgain.{each, flat_map_same}
use Rattle.tree_types.proofs.PathsAgain.{nodes_alike, paths_alike, values_alike}
use Rattle.prof_stats.specs.Stats.{content_stats, node_stats, spread, stats_of_paths}
use Rattle.prof_stats.specs.StatsTable.{content_stats_table, node_stats_row, row_if_some, stats_header, table_of_paths}

module _ (period columns : ℕ) (ps qs : List ColumnPath) (kind : Kind) (alike : Alike ps qs) where
  node_alike : (n : Path) → node_stats period columns ps kind n ≡ node_stats period columns qs kind n
  node_alike n = λ i. spread (map (λ column. values_alike period ps qs alike column n kind i) (columns_below columns))

  stats_alike : stats_of_paths period columns ps kind ≡ stats_of_paths period columns qs kind
  unfolding stats_of_paths
  stats_alike = λ i. map (λ n. node_alike n i) (nodes_alike ps qs alike i)

  table_alike : (naming : Naming) → table_of_paths period columns naming ps kind ≡ table_of_paths period columns naming qs kind
  unfolding table_of_paths
  table_alike naming = λ i. stats_header ++ flat_map (λ n. row_if_some (node_alike n i) (length n - 1) (label naming (own_scope n))) (nodes_alike ps qs alike i)

-- labels under the names that are used
abbrev OwnLabels : Type 0
OwnLabels = (naming : Naming) (ps : List ColumnPath) (n : Path) → Contains (nodes ps) n → label (naming_in (names_used naming ps)) (own_scope n) ≡ label naming (own_scope n)

own_names_table : OwnLabels → (period columns : ℕ) (naming : Naming) (ps : List ColumnPath) (kind : Kind) → table_of_paths period columns (naming_in (names_used naming ps)) ps kind ≡ table_of_paths period columns naming ps kind
unfolding table_of_paths
own_names_table labels period columns naming ps kind =
    let own : Naming = naming_in (names_used naming ps) in
    ap (λ (x : List ℕ). stats_header ++ x) (flat_map_same (node_stats_row period columns own ps kind) (node_stats_row period columns naming ps kind) (nodes ps)
    (each (λ n. node_stats_row period columns own ps kind n ≡ node_stats_row period columns naming ps kind n) (nodes ps) (λ n c.
    λ i. row_if_some (node_stats period columns ps kind n) (length n - 1) (labels naming ps n c i))))

names_are : (period columns : ℕ) (naming : Naming) (ps : List ColumnPath) → (content_of period columns naming ps).names ≡ names_used naming ps
unfolding content_of
names_are period columns naming ps = refl

period_is : (period columns : ℕ) (naming : Naming) (ps : List ColumnPath) → (content_of period columns naming ps).period ≡ period
unfolding content_of
period_is period columns naming ps = refl

columns_are : (period columns : ℕ) (naming : Naming) (ps : List ColumnPath) → (content_of period columns naming ps).columns ≡ columns
unfolding content_of
columns_are period columns naming ps = refl

pub own_stats : (period columns : ℕ) (naming : Naming) (ps : List ColumnPath) (kind : Kind) → 0 < period → length (nodes ps) ≤ no_parent → All (λ p. 0 < length p.path) ps → All (λ p. p.column < columns) ps
    → content_stats (content_of period columns naming ps) kind ≡ stats_of_paths period columns ps kind
own_stats period columns naming ps kind positive few some below =
    let c : Content = content_of period columns naming ps in
    (λ i. stats_of_paths (period_is period columns naming ps i) (columns_are period columns naming ps i) (paths_of c) kind)
    ∙ stats_alike period columns (paths_of c) ps kind (paths_alike period columns naming ps positive few some below)

pub own_table : OwnLabels → (period columns : ℕ) (naming : Naming) (ps : List ColumnPath) (kind : Kind) → 0 < period → length (nodes ps) ≤ no_parent → All (λ p. 0 < length p.path) ps → All (λ p. p.column < columns) ps
    → content_stats_table (content_of period columns naming ps) kind ≡ table_of_paths period columns naming ps kind
own_table labels period columns naming ps kind positive few some below =
    let c : Content = content_of period columns naming ps in
    (λ i. table_of_paths (period_is period columns naming ps i) (columns_are period columns naming ps i) (naming_in (names_are period columns naming ps i)) (paths_of c) kind)
    ∙ table_alike period columns (paths_of c) ps kind (paths_alike period columns naming ps positive few some below) (naming_in (names_used naming ps))
    ∙ own_names_table labels period columns naming ps kind
