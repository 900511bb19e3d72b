-- How far a walk over the nodes is, from the last node to the first.
use Rattle.std.specs.Prelude.{◌≡◌, ◌≢◌, ℕ, ◌-◌, ◌<◌, ◌≤◌, ◌==◌, ◌&&◌, not, List, length, sum_by, reverse, All, AllPairs}
use Rattle.std.specs.Prelude.{slice_index_or, if◌then◌else◌}
use Rattle.std.specs.List.{flat_map, range_with_len}
use Rattle.tree_types.specs.declared.counted_tree.NodeCount.{NodeCount}
use Rattle.tree_types.specs.declared.node_values.NodeValue.{NodeValue}
use Rattle.tree_types.specs.NodeValues.{nonzero, values_at_node}
use Rattle.tree_types.specs.Paths.{is_proc}
use Rattle.tree_types.specs.Tree.{CountedTree, count_at, node_at, node_path, paths_in}
use Rattle.tree_types.specs.Values.{anything, count_below, within_frame}
use Rattle.metric_sums.specs.declared.column_sums.Sum.{Sum}
use Rattle.metric_sums.specs.declared.ancestors.OpenNode.{OpenNode}
use Rattle.metric_sums.specs.private.Sums.{no_paths}

-- how many of a column's paths pass a node, and how many of them end within its frame
abbrev pub passing : CountedTree → ℕ → ℕ → ℕ
passing t column node = count_below anything (paths_in t) column (node_path t.nodes node)

-- how many of a column's paths end within the frame of a node
abbrev pub in_frame : CountedTree → ℕ → ℕ → ℕ
in_frame t column node = count_below within_frame (paths_in t) column (node_path t.nodes node)

-- the sums of a node for a column
abbrev pub whole_sum : CountedTree → ℕ → ℕ → Sum
whole_sum t node column = record {
  exclusive = count_at t.counts node column;
  frame = in_frame t column node;
  inclusive = passing t column node;
}

-- what a node hands up to another one, if that is its parent
abbrev pub frame_share : CountedTree → ℕ → ℕ → ℕ → ℕ
frame_share t node column other =
    if (node_at t.nodes other).parent == node && not (is_proc (node_at t.nodes other).scope)
    then in_frame t column other else 0

-- how many paths that pass a node another one hands up to it, if it is that one's parent
abbrev pub inclusive_share : CountedTree → ℕ → ℕ → ℕ → ℕ
inclusive_share t node column other = if (node_at t.nodes other).parent == node then passing t column other else 0

-- what the nodes from one on hand up to a node
unfoldable pub pending : CountedTree → ℕ → ℕ → ℕ → Sum
pending t first node column = record {
  exclusive = 0;
  frame = sum_by (frame_share t node column) (range_with_len first (length t.nodes - first));
  inclusive = sum_by (inclusive_share t node column) (range_with_len first (length t.nodes - first));
}

-- a node before the first one of those that are done, with one of these as a child, and what they hand up to it
pub record IsOpen (t : CountedTree) (first : ℕ) (o : OpenNode) : Type 0 where
  pub long : length o.sums ≡ t.columns
  pub below : o.node < first
  pub child : (j : ℕ) × (first ≤ j) × (j < length t.nodes) × ((node_at t.nodes j).parent ≡ o.node)
  pub each : (h : ℕ) (d : Sum) → h < t.columns → slice_index_or o.sums h d ≡ pending t first o.node h

-- the nodes from `first` on are done: their parents before `first` are among the ancestors, and their values are
-- there, by the columns' periods
pub record At (period : ℕ → ℕ) (t : CountedTree) (first : ℕ) (ancestors : List OpenNode) (left : ℕ)
    (out : List NodeValue) : Type 0 where
  pub parents : All (IsOpen t first) ancestors
  pub rise : AllPairs (λ a b. a.node < b.node) ancestors
  pub none : (node h : ℕ) → node < first → All (λ o. o.node ≢ node) ancestors → pending t first node h ≡ no_paths
  pub few : left ≤ length t.counts
  pub before : (k : ℕ) (d : NodeCount) → k < left → (slice_index_or t.counts k d).node < first
  pub behind : (k : ℕ) (d : NodeCount) → left ≤ k → k < length t.counts
      → first ≤ (slice_index_or t.counts k d).node
  pub values : reverse out
      ≡ nonzero (flat_map (values_at_node period t) (range_with_len first (length t.nodes - first)))
