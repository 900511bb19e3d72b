-- The rows of a table, a node at a time.
use Rattle.std.proofs.Common.{◌≡◌, ℕ, ◌+◌, ◌-◌, ◌*◌, ◌<◌, ◌≤◌, ◌^◌, List, [], ◌++◌, length, get_or, refl, sym, ap, ◌∙◌, arith, take_all, length-append}
use Rattle.std.proofs.lemmas.List.{get_or_default}
use Rattle.std.specs.List.{flat_map}
use Rattle.tree_types.specs.declared.content.Content.{Content}
use Rattle.tree_types.specs.declared.content.Kind.{Kind}
use Rattle.tree_types.specs.declared.content.Kind.TheVariants.{Frame, Inclusive}
use Rattle.tree_types.specs.Database.{naming_in}
use Rattle.tree_types.specs.Nodes.{nodes, own_scope}
use Rattle.tree_types.specs.OfContent.{IsProfile, content_table}
use Rattle.tree_types.specs.Paths.{Path}
use Rattle.tree_types.specs.PathsOf.{paths_of}
use Rattle.tree_types.specs.TopDown.{header, label, node_row, over_columns, top_down}
use Rattle.tree_types.proofs.ContentParts.{own_names_ascend}
use Rattle.tree_types.proofs.Totals.{within_total}
use Rattle.prof_bytes.proofs.Appending.{append_more, two_parts}
use Rattle.view_tables.specs.private.Values.{path_of_node, total_value}
use Rattle.view_tables.specs.private.top.Rows.{shown_row, row_text, rows_below}
use Rattle.view_tables.proofs.EntrySums.{as_many_lists, as_many_nodes, some_total}
use Rattle.view_tables.proofs.NamesFound.{names_ascend}
use Rattle.view_tables.proofs.Depths.{before_number, no_depth, number_after}
use Rattle.view_tables.proofs.TextLengths.{row_parts}
use Rattle.view_tables.proofs.CellWidths.{values_long}

-- the row of a node, by its path
abbrev path_row : Content → Path → List ℕ
path_row c n = node_row c.period c.columns (naming_in c.names) (paths_of c) n

pub row_more : (c : Content) (start out after : List ℕ) (number : ℕ) → IsProfile c → number < length c.nodes
    → out ≡ start ++ rows_below c number → after ≡ out ++ row_text c.names (shown_row c number) → after ≡ start ++ rows_below c (number + 1)
row_more c start out after number profile lt so_far one =
    let ns : List Path = nodes (paths_of c) in
    let inside : number < length ns = omega (arith, lt, as_many_nodes c profile) in
    append_more (path_row c) start out after ns number (path_of_node c number) inside (default number inside) so_far one
  where
    default : (number : ℕ) → number < length (nodes (paths_of c)) → path_of_node c number ≡ get_or (nodes (paths_of c)) number (path_of_node c number)
    default number lt = get_or_default (nodes (paths_of c)) number [] (path_of_node c number) lt

pub all_rows : (c : Content) (start middle out : List ℕ) (number : ℕ) → IsProfile c → length c.contexts ≤ number
    → middle ≡ start ++ header → out ≡ middle ++ rows_below c number → out ≡ start ++ content_table c
unfolding top_down
all_rows c start middle out number profile le first rest =
    let past : length (nodes (paths_of c)) ≤ number = omega (arith, le, as_many_nodes c profile, as_many_lists c profile) in
    two_parts start middle out header (flat_map (path_row c) (nodes (paths_of c))) first
    (rest ∙ ap (λ (ns : List Path). middle ++ flat_map (path_row c) ns) (take_all number (nodes (paths_of c)) past))

pub nodes_few : (c : Content) → IsProfile c → length c.contexts < 2 ^ 32
nodes_few c profile = omega (arith, profile.nodes, as_many_lists c profile)

-- ---- lengths

-- the length of a node's row
pub row_long : (c : Content) (number : ℕ) → IsProfile c → number < length c.nodes → total_value c ≤ 2 ^ 52
    → length (row_text c.names (shown_row c number)) ≡ length (label (naming_in c.names) (own_scope (path_of_node c number))) + (43 + 2 * (length (path_of_node c number) - 1))
row_long c number profile lt small =
    let n : Path = path_of_node c number in
    let within : (kind : Kind) → over_columns c.period c.columns (paths_of c) n kind ≤ total_value c = within_total c.period c.columns (paths_of c) n in
    row_parts _ (label (naming_in c.names) (own_scope n)) (length n - 1)
    (values_long (over_columns c.period c.columns (paths_of c) n Inclusive) (total_value c) (over_columns c.period c.columns (paths_of c) n Frame) (some_total c number profile lt) small (within Inclusive) (within Frame))

pub rows_grow : (c : Content) (number : ℕ) → IsProfile c → number < length c.nodes
    → length (rows_below c (number + 1)) ≡ length (rows_below c number) + length (row_text c.names (shown_row c number))
rows_grow c number profile lt =
    ap length (sym (row_more c [] (rows_below c number) (rows_below c number ++ row_text c.names (shown_row c number)) number profile lt refl refl))
    ∙ length-append (rows_below c number) (row_text c.names (shown_row c number))

pub whole_long : (c : Content) (number : ℕ) → IsProfile c → length c.contexts ≤ number → length (content_table c) ≡ 48 + length (rows_below c number)
whole_long c number profile le =
    ap length (sym (all_rows c [] header (header ++ rows_below c number) number profile le refl refl)) ∙ length-append header (rows_below c number)

pub ruleset length_steps = (before_number, number_after)

pub ruleset whole_length = (nodes_few, as_many_lists)

pub ruleset row_steps = (names_ascend, own_names_ascend)

pub ruleset table_steps = (row_more, all_rows, nodes_few, as_many_lists, no_depth, number_after)
