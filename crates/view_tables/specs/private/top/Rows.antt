-- The rows of a content's table, by the numbers of its nodes, and lengths of text.
use Rattle.std.specs.Prelude.{◌≡◌, ℕ, zero, suc, ◌-◌, ◌^◌, ◌<◌, ◌⊎◌, List, ◌++◌, length, decimal, min, take}
use Rattle.std.specs.List.{flat_map}
use Rattle.tree_types.specs.declared.content.Content.{Content}
use Rattle.tree_types.specs.declared.content.Kind.TheVariants.{Frame, Inclusive}
use Rattle.tree_types.specs.declared.content.Names.{Names}
use Rattle.tree_types.specs.Database.{naming_in}
use Rattle.tree_types.specs.Nodes.{nodes, no_parent, own_scope}
use Rattle.tree_types.specs.Paths.{Path}
use Rattle.tree_types.specs.PathsOf.{paths_of}
use Rattle.tree_types.specs.TopDown.{label, node_row, over_columns, percent, table_row}
use Rattle.view_tables.specs.declared.top.row.TableRow.{TableRow}
use Rattle.view_tables.specs.private.Values.{path_of_node, total_value}

-- the number before; before the first what is in place of a root's parent
abbrev pub number_before : ℕ → ℕ
number_before zero = no_parent
number_before (suc number) = number

-- the number of a node, or what is in place of a root's parent
abbrev pub IsNumber : Content → ℕ → Type 0
IsNumber c number = (number ≡ no_parent) ⊎ (number < length c.nodes)

-- one of the numbers stands for the other, or for an ancestor of it
pub record LiesBelow (c : Content) (number ancestor : ℕ) : Type 0 where
  pub below : IsNumber c number
  pub above : IsNumber c ancestor
  pub rest : Path
  pub parts : path_of_node c number ≡ path_of_node c ancestor ++ rest

-- what the row of a node shows
abbrev pub shown_row : Content → ℕ → TableRow
shown_row c number = record {
  inclusive = over_columns c.period c.columns (paths_of c) (path_of_node c number) Inclusive;
  total = total_value c;
  frame = over_columns c.period c.columns (paths_of c) (path_of_node c number) Frame;
  level = length (path_of_node c number) - 1;
  scope = own_scope (path_of_node c number);
}

-- a row as text
abbrev pub row_text : Names → TableRow → List ℕ
row_text names row = table_row (decimal row.inclusive) (percent row.inclusive row.total) (decimal row.frame) row.level
    (label (naming_in names) row.scope)

-- the rows of the nodes below a number, one after another
abbrev pub rows_below : Content → ℕ → List ℕ
rows_below c number =
    flat_map (node_row c.period c.columns (naming_in c.names) (paths_of c)) (take number (nodes (paths_of c)))

-- a length, or 2^64 - 1 where it is more
abbrev pub capped : ℕ → ℕ
capped n = min n (2 ^ 64 - 1)
