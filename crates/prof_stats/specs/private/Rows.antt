-- What the code adds up, and the rows of a content's nodes by their numbers.
use Rattle.std.specs.Prelude.{ℕ, ◌+◌, ◌*◌, ◌==◌, if◌then◌else◌, List, map, max, min, take}
use Rattle.std.specs.List.{flat_map}
use Rattle.tree_types.specs.declared.content.Content.{Content}
use Rattle.tree_types.specs.declared.content.ContextEntry.{ContextEntry}
use Rattle.tree_types.specs.declared.content.Kind.{Kind}
use Rattle.tree_types.specs.Database.{naming_in}
use Rattle.tree_types.specs.Nodes.{nodes}
use Rattle.tree_types.specs.PathsOf.{paths_of}
use Rattle.view_tables.specs.private.Values.{amount, path_of_node}
use Rattle.prof_stats.specs.declared.spread.NodeStats.{NodeStats}
use Rattle.prof_stats.specs.Stats.{node_stats, spread}
use Rattle.prof_stats.specs.StatsTable.{node_stats_row}

-- a summary with one value more
abbrev pub with_one : NodeStats → ℕ → NodeStats
with_one s v = record {
  profiles = s.profiles + 1;
  sum = s.sum + v;
  least = if s.profiles == 0 then v else min s.least v;
  greatest = max s.greatest v;
  squares = s.squares + v * v;
}

-- the same, where 0 is not counted
abbrev pub with_value : NodeStats → ℕ → NodeStats
with_value s v = if v == 0 then s else with_one s v

-- the summary of a node's list for a kind
abbrev pub entry_stats : Kind → List ContextEntry → NodeStats
entry_stats kind entries = spread (map (amount kind) entries)

-- that of the node with this number
abbrev pub stats_of_node : Content → Kind → ℕ → NodeStats
stats_of_node c kind number = node_stats c.period c.columns (paths_of c) kind (path_of_node c number)

-- the row of the node with this number
abbrev pub row_of_node : Content → Kind → ℕ → List ℕ
row_of_node c kind number = node_stats_row c.period c.columns (naming_in c.names) (paths_of c) kind (path_of_node c number)

-- the rows of the nodes below a number, one after another
abbrev pub stats_rows_below : Content → Kind → ℕ → List ℕ
stats_rows_below c kind number =
    flat_map (node_stats_row c.period c.columns (naming_in c.names) (paths_of c) kind) (take number (nodes (paths_of c)))
