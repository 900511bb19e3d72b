-- The rows of the table of summaries, a node at a time.
use Rattle.std.proofs.Common.{◌≡◌, ℕ, zero, suc, ◌+◌, ◌-◌, ◌<◌, ◌≤◌, List, [], ◌∷◌, ◌++◌, length, get_or, refl, sym, ap, ◌∙◌, arith, take_all}
use Rattle.std.specs.List.{flat_map}
use Rattle.std.proofs.lemmas.List.{get_or_default}
use Rattle.tree_types.specs.declared.content.Content.{Content}
use Rattle.tree_types.specs.declared.content.Kind.{Kind}
use Rattle.tree_types.specs.Database.{naming_in}
use Rattle.tree_types.specs.Nodes.{nodes, no_parent}
use Rattle.tree_types.specs.OfContent.{IsProfile}
use Rattle.tree_types.specs.Paths.{Path}
use Rattle.tree_types.specs.PathsOf.{paths_of}
use Rattle.prof_bytes.proofs.Appending.{append_more, two_parts}
use Rattle.view_tables.specs.Labels.{node_label}
use Rattle.view_tables.specs.private.Values.{path_of_node}
use Rattle.view_tables.specs.private.top.Rows.{number_before}
use Rattle.prof_stats.specs.declared.spread.NodeStats.{NodeStats}
use Rattle.prof_stats.specs.StatsTable.{content_stats_table, node_stats_row, row_if_some, stats_header, table_of_paths}
use Rattle.prof_stats.specs.private.Rows.{row_of_node, stats_of_node, stats_rows_below}
use Rattle.prof_stats.proofs.NodeSpreads.{as_many_lists, as_many_nodes, lists_few}

-- the row of a node, by its path
abbrev path_row : Content → Kind → Path → List ℕ
path_row c kind n = node_stats_row c.period c.columns (naming_in c.names) (paths_of c) kind n

-- ---- walking over the nodes

past_all : {X : Type 0} (xs : List X) (i : ℕ) (d : X) → length xs ≤ i → get_or xs i d ≡ d
past_all [] i d le = refl
past_all (x ∷ xs) zero d le = absurd (omega arith)
past_all (x ∷ xs) (suc i) d le = past_all xs i d (omega arith)

-- what is in place of a root's parent has no scope
pub no_depth : (c : Content) → IsProfile c → 0 ≡ length (path_of_node c no_parent)
no_depth c profile = sym (ap length (past_all (nodes (paths_of c)) no_parent [] (omega (arith, profile.nodes, as_many_nodes c profile))))

pub number_after : (i : ℕ) → number_before (i + 1) ≡ i
number_after zero = refl
number_after (suc i) = ap number_before (let e : suc i + 1 ≡ suc (suc i) = omega arith in e)

-- ---- rows

pub same_row : (c : Content) (kind : Kind) (number depth : ℕ) (s : NodeStats) → s ≡ stats_of_node c kind number → depth ≡ length (path_of_node c number)
    → row_if_some s (depth - 1) (node_label c number) ≡ row_of_node c kind number
same_row c kind number depth s is long = λ i. row_if_some (is i) (long i - 1) (node_label c number)

pub row_more : (c : Content) (kind : Kind) (start out after : List ℕ) (number : ℕ) → IsProfile c → number < length c.nodes
    → out ≡ start ++ stats_rows_below c kind number → after ≡ out ++ row_of_node c kind number → after ≡ start ++ stats_rows_below c kind (number + 1)
row_more c kind start out after number profile lt so_far one =
    let ns : List Path = nodes (paths_of c) in
    let inside : number < length ns = omega (arith, lt, as_many_nodes c profile) in
    append_more (path_row c kind) start out after ns number (path_of_node c number) inside (default number inside) so_far one
  where
    default : (number : ℕ) → number < length (nodes (paths_of c)) → path_of_node c number ≡ get_or (nodes (paths_of c)) number (path_of_node c number)
    default number lt = get_or_default (nodes (paths_of c)) number [] (path_of_node c number) lt

pub all_rows : (c : Content) (kind : Kind) (start middle out : List ℕ) (number : ℕ) → IsProfile c → length c.contexts ≤ number
    → middle ≡ start ++ stats_header → out ≡ middle ++ stats_rows_below c kind number → out ≡ start ++ content_stats_table c kind
unfolding table_of_paths
all_rows c kind start middle out number profile le first rest =
    let past : length (nodes (paths_of c)) ≤ number = omega (arith, le, as_many_nodes c profile, as_many_lists c profile) in
    two_parts start middle out stats_header (flat_map (path_row c kind) (nodes (paths_of c))) first
    (rest ∙ ap (λ (ns : List Path). middle ++ flat_map (path_row c kind) ns) (take_all number (nodes (paths_of c)) past))

pub ruleset node_row_steps = (same_row)

pub ruleset table_steps = (row_more, all_rows, lists_few, as_many_lists, no_depth, number_after)
