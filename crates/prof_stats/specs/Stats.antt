-- How the values of a node are spread over the profiles, each of which is a hart of a run: the summary metrics of
-- HPCToolkit's manual (sum, mean, least, greatest, and what the standard deviation is made of).
use Rattle.std.specs.Prelude.{ℕ, ◌*◌, ◌==◌, not, List, [], ◌∷◌, length, map, filter, fold, min, max, sum_by}
use Rattle.scope_types.specs.CallPaths.{ColumnPath}
use Rattle.scope_types.specs.Limits.{most_harts, most_runs}
use Rattle.tree_types.specs.declared.content.Content.{Content}
use Rattle.tree_types.specs.declared.content.Kind.{Kind}
use Rattle.tree_types.specs.Nodes.{nodes}
use Rattle.tree_types.specs.Paths.{Path}
use Rattle.tree_types.specs.PathsOf.{paths_of}
use Rattle.tree_types.specs.Values.{value, columns_below}
use Rattle.prof_stats.specs.declared.spread.NodeStats.{NodeStats}

-- how many profiles a summary may be over: the harts of all runs
abbrev pub most_profiles : ℕ
most_profiles = most_runs * most_harts

-- ---- numbers

-- those that are not 0
abbrev pub above_zero : List ℕ → List ℕ
above_zero values = filter (λ v. not (v == 0)) values

-- the least; 0 where there is none
abbrev pub least_of : List ℕ → ℕ
least_of [] = 0
least_of (v ∷ values) = fold min v values

-- the greatest; 0 where there is none
abbrev pub greatest_of : List ℕ → ℕ
greatest_of values = fold max 0 values

-- how many there are, their sum, the least and the greatest of them, and the sum of their squares
abbrev pub summary : List ℕ → NodeStats
summary values = record {
  profiles = length values;
  sum = sum_by (λ v. v) values;
  least = least_of values;
  greatest = greatest_of values;
  squares = sum_by (λ v. v * v) values;
}

-- a value of each profile: the summary of those that are not 0
abbrev pub spread : List ℕ → NodeStats
spread values = summary (above_zero values)

-- ---- nodes

-- the values of a kind at a node, one for each column
abbrev pub values_over_columns : ℕ → ℕ → List ColumnPath → Kind → Path → List ℕ
values_over_columns period columns paths kind n = map (λ column. value period paths column n kind) (columns_below columns)

-- how they are spread
abbrev pub node_stats : ℕ → ℕ → List ColumnPath → Kind → Path → NodeStats
node_stats period columns paths kind n = spread (values_over_columns period columns paths kind n)

-- period, columns, paths, a kind: one summary for each node, in the order of their numbers
unfoldable pub stats_of_paths : ℕ → ℕ → List ColumnPath → Kind → List NodeStats
stats_of_paths period columns paths kind = map (node_stats period columns paths kind) (nodes paths)

-- those of a content
abbrev pub content_stats : Content → Kind → List NodeStats
content_stats c kind = stats_of_paths c.period c.columns (paths_of c) kind
