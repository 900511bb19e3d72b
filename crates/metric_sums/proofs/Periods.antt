-- The periods of columns.
use Rattle.std.proofs.Common.{◌≡◌, ℕ, zero, suc, ◌+◌, ◌%◌, ◌<◌, ◌≤◌, ◌++◌, List, [], ◌∷◌, length, map, get_or, sym, ap, ◌∙◌, arith}
use Rattle.std.specs.List.{flat_map, range_with_len}
use Rattle.std.proofs.lemmas.List.{get_or_default}
use Rattle.std.proofs.lemmas.List.FromFn.{get_or-map-range_with_len, length-map-range_with_len, map-range_with_len_more}
use Rattle.std.proofs.lemmas.Nat.{mod_below}
use Rattle.scope_types.specs.Columns.{period_of_column}
use Rattle.tree_types.specs.NodeValues.{nonzero, values_for_column, values_of}
use Rattle.tree_types.specs.declared.content.Kind.{Kind}
use Rattle.tree_types.specs.declared.node_values.NodeValue.{NodeValue}
use Rattle.tree_types.specs.Planes.{kinds}
use Rattle.tree_types.specs.Tree.{CountedTree, node_path, paths_in}
use Rattle.tree_types.specs.Values.{columns_below, value}
use Rattle.metric_sums.specs.private.Ancestors.{period_in}

abbrev priced : CountedTree → ℕ → ℕ → ℕ → Kind → NodeValue
priced t node column period kind = record { node = node; column = column; kind = kind; value = value period (paths_in t) column (node_path t.nodes node) kind }

module _ (f g : ℕ → ℕ) (t : CountedTree) (same : (column : ℕ) → column < t.columns → f column ≡ g column) where
  node_same : (node a n : ℕ) → a + n ≤ t.columns → flat_map (values_for_column f t node) (range_with_len a n) ≡ flat_map (values_for_column g t node) (range_with_len a n)
  node_same node a zero inside = λ i. []
  node_same node a (suc n) inside = λ i. map (priced t node a (same a (omega arith) i)) kinds ++ node_same node (a + 1) n (omega arith) i

  values_same : values_of f t ≡ values_of g t
  unfolding values_of
  values_same = λ i. record {
    nodes = length t.nodes;
    columns = t.columns;
    entries = nonzero (flat_map (λ node. node_same node 0 t.columns (omega arith) i) (range_with_len 0 (length t.nodes)));
  }

-- the values by the list of the columns' periods are those by the periods that the columns take turns with
pub values_priced : (periods all : List ℕ) (columns : ℕ) (t : CountedTree) → columns ≡ t.columns → all ≡ map (period_of_column periods) (columns_below columns) → values_of (period_in all) t ≡ values_of (period_of_column periods) t
values_priced periods all columns t is listed = values_same (period_in all) (period_of_column periods) t (λ column lt.
    ap (λ (l : List ℕ). get_or l column 0) listed ∙ get_or-map-range_with_len (period_of_column periods) 0 columns column column 0 (omega (arith, lt, is)) (omega arith))

pub as_many : (periods all : List ℕ) (columns n : ℕ) → all ≡ map (period_of_column periods) (columns_below columns) → columns ≡ n → length all ≡ n
as_many periods all columns n listed is = ap length listed ∙ length-map-range_with_len (period_of_column periods) 0 columns ∙ is

-- one column more
pub column_more : (periods old new : List ℕ) (column d : ℕ) → 0 < length periods → old ≡ map (period_of_column periods) (columns_below column) → new ≡ old ++ get_or periods (column % length periods) d ∷ []
    → new ≡ map (period_of_column periods) (columns_below (column + 1))
column_more periods old new column d some so_far pushed =
    let f : ℕ → ℕ = period_of_column periods in
    let inside : column % length periods < length periods = mod_below column (length periods) some in
    let own : get_or periods (column % length periods) d ≡ f column = get_or_default periods (column % length periods) d 0 inside in
    pushed ∙ (λ i. so_far i ++ own i ∷ []) ∙ sym (map-range_with_len_more f 0 column column (omega arith))
