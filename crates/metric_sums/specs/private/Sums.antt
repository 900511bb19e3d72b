-- What is summed up for the columns of a node.
use Rattle.std.specs.Prelude.{ℕ, ◌+◌, ◌≤◌, ◌==◌, List, filter, sum_by, if◌then◌else◌}
use Rattle.scope_types.specs.Limits.{most_samples}
use Rattle.scope_types.specs.declared.scope.Scope.{Scope}
use Rattle.tree_types.specs.declared.counted_tree.NodeCount.{NodeCount}
use Rattle.tree_types.specs.Paths.{is_proc}
use Rattle.metric_sums.specs.declared.column_sums.Sum.{Sum}

-- a sum of no paths
abbrev pub no_paths : Sum
no_paths = record { exclusive = 0; frame = 0; inclusive = 0 }

-- a sum with a given number of paths more that end at the node
abbrev pub with_own : ℕ → Sum → Sum
with_own paths s = record { exclusive = s.exclusive + paths; frame = s.frame + paths; inclusive = s.inclusive + paths }

-- what a node hands up to its parent: all paths that pass it, and unless it is a procedure those of its frame
abbrev pub handed_up : Scope → Sum → Sum
handed_up scope s = record { exclusive = 0; frame = if is_proc scope then 0 else s.frame; inclusive = s.inclusive }

-- two sums, number by number
abbrev pub sum_of_both : Sum → Sum → Sum
sum_of_both a b = record {
  exclusive = a.exclusive + b.exclusive;
  frame = a.frame + b.frame;
  inclusive = a.inclusive + b.inclusive;
}

-- how many paths of a column are counted
abbrev pub count_of_column : List NodeCount → ℕ → ℕ
count_of_column counts column = sum_by (λ c. c.count) (filter (λ c. c.column == column) counts)

-- a sum that stays below 2^32 with another one
pub record IsSmall (s : Sum) : Type 0 where
  pub exclusive : s.exclusive ≤ most_samples
  pub frame : s.frame ≤ most_samples
  pub inclusive : s.inclusive ≤ most_samples
