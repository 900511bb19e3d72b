-- Counts by node and column, added up.
use Rattle.std.specs.Prelude.{◌≡◌, ℕ, ◌+◌, ◌<◌, ◌==◌, ◌&&◌, nat_lt, not, List, length, map, filter, All, AllPairs, Bool}
use Rattle.std.specs.List.{flat_map}
use Rattle.std.specs.declared.cmp.Ordering.TheVariants.{Less}
use Rattle.tree_types.specs.declared.counted_tree.NodeCount.{NodeCount}
use Rattle.tree_types.specs.Nodes.{no_parent}
use Rattle.tree_types.specs.Tree.{count_order, count_at, counts_in}
use Rattle.path_trie.specs.declared.trie.PathEnd.{PathEnd}
use Rattle.path_trie.specs.Trie.{IsIndex}
use Rattle.tree_join.specs.declared.walker.Walker.{Walker}
use Rattle.tree_join.specs.private.Walk.{number_given}

-- an end at a node, of some samples
abbrev pub counts_some : PathEnd → Bool
counts_some e = not (e.node == no_parent) && nat_lt 0 e.count

-- its count, by the node's number
abbrev pub count_of_end : List ℕ → PathEnd → NodeCount
count_of_end numbers e = record { node = number_given numbers e.node; column = e.column; count = e.count }

-- the counts of a trie's ends, by the nodes' numbers
abbrev pub counts_of : List ℕ → List PathEnd → List NodeCount
counts_of numbers ends = map (count_of_end numbers) (filter counts_some ends)

-- the counts of all tries that are walked over, trie by trie
abbrev pub all_counts : List Walker → List NodeCount
all_counts walkers = flat_map (λ w. counts_of w.numbers.items w.ends.now) walkers

-- each end is at a node that may have a number
abbrev pub HasIndices : Walker → Type 0
HasIndices w = All (λ e. IsIndex e.node (length w.numbers.items)) w.ends.now

-- a count with another added
abbrev pub grown : NodeCount → NodeCount → NodeCount
grown a b = record { node = a.node; column = a.column; count = a.count + b.count }

-- the counts of each node and column added up, in order
pub record AreSums (counts sums : List NodeCount) : Type 0 where
  pub ascend : AllPairs (λ a b. count_order a b ≡ Less) sums
  pub same : (node column : ℕ) → count_at sums node column ≡ count_at counts node column
  pub total : counts_in sums ≡ counts_in counts
  pub nodes : (n : ℕ) → All (λ c. c.node < n) counts → All (λ c. c.node < n) sums
  pub columns : (n : ℕ) → All (λ c. c.column < n) counts → All (λ c. c.column < n) sums
  pub some : All (λ c. 0 < c.count) counts → All (λ c. 0 < c.count) sums
