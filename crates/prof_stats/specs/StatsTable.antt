-- The table of summaries: a row for each node at which some profile has a value.
use Rattle.std.specs.Prelude.{ℕ, ◌+◌, ◌-◌, ◌*◌, ◌/◌, ◌%◌, ◌==◌, ◌&&◌, nat_lt, if◌then◌else◌, List, [], ◌∷◌, ◌++◌}
use Rattle.std.specs.Prelude.{length, filter, codes, decimal}
use Rattle.std.specs.List.{flat_map, range_with_len}
use Rattle.scope_types.specs.CallPaths.{ColumnPath}
use Rattle.tree_types.specs.declared.content.Content.{Content}
use Rattle.tree_types.specs.declared.content.Kind.{Kind}
use Rattle.tree_types.specs.Database.{naming_in}
use Rattle.tree_types.specs.Naming.{Naming}
use Rattle.tree_types.specs.Nodes.{nodes, own_scope}
use Rattle.tree_types.specs.Paths.{Path}
use Rattle.tree_types.specs.PathsOf.{paths_of}
use Rattle.tree_types.specs.TopDown.{label, right, spaces}
use Rattle.prof_stats.specs.declared.spread.NodeStats.{NodeStats}
use Rattle.prof_stats.specs.Stats.{greatest_of, node_stats}

-- ---- the mean

-- the numbers from 1 to the second that divide both
abbrev pub common_divisors : ℕ → ℕ → List ℕ
common_divisors a b = filter (λ d. a % d == 0 && b % d == 0) (range_with_len 1 b)

-- the greatest of them
unfoldable pub greatest_divisor : ℕ → ℕ → ℕ
greatest_divisor a b = greatest_of (common_divisors a b)

-- one number over another as a fraction in lowest terms
abbrev pub fraction : ℕ → ℕ → List ℕ
fraction a b = decimal (a / greatest_divisor a b) ++ codes "/" ++ decimal (b / greatest_divisor a b)

-- ---- rows

-- six cells of widths 8, 16, 16, 16, 32 and 24, then the label, two blanks in for each level, after two
abbrev pub stats_line : List ℕ → List ℕ → List ℕ → List ℕ → List ℕ → List ℕ → ℕ → List ℕ → List ℕ
stats_line profiles sum least greatest squares mean level text =
    right 8 profiles ++ spaces 1 ++ right 16 sum ++ spaces 1 ++ right 16 least ++ spaces 1 ++ right 16 greatest
    ++ spaces 1 ++ right 32 squares ++ spaces 1 ++ right 24 mean ++ spaces (2 + 2 * level) ++ text ++ 10 ∷ []

-- the row of the heads
abbrev pub stats_header : List ℕ
stats_header = stats_line (codes "profiles") (codes "sum") (codes "least") (codes "greatest") (codes "squares")
    (codes "mean") 0 (codes "scope")

-- the row of a summary, at a level, with a label
abbrev pub stats_row : NodeStats → ℕ → List ℕ → List ℕ
stats_row s level text = stats_line (decimal s.profiles) (decimal s.sum) (decimal s.least) (decimal s.greatest)
    (decimal s.squares) (fraction s.sum s.profiles) level text

-- the row, if some profile has a value
abbrev pub row_if_some : NodeStats → ℕ → List ℕ → List ℕ
row_if_some s level text = if nat_lt 0 s.profiles then stats_row s level text else []

-- that of a node
abbrev pub node_stats_row : ℕ → ℕ → Naming → List ColumnPath → Kind → Path → List ℕ
node_stats_row period columns naming paths kind n =
    row_if_some (node_stats period columns paths kind n) (length n - 1) (label naming (own_scope n))

-- ---- the table

-- period, columns, names, paths, a kind: the heads, and the rows of the nodes in the order of their numbers
unfoldable pub table_of_paths : ℕ → ℕ → Naming → List ColumnPath → Kind → List ℕ
table_of_paths period columns naming paths kind =
    stats_header ++ flat_map (node_stats_row period columns naming paths kind) (nodes paths)

-- that of a content
abbrev pub content_stats_table : Content → Kind → List ℕ
content_stats_table c kind = table_of_paths c.period c.columns (naming_in c.names) (paths_of c) kind
