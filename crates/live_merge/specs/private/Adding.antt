-- How two trees are added: their nodes are walked over in order, and put in one order.
use Rattle.std.specs.Prelude.{◌≡◌, ◌≢◌, ◌⊎◌, ℕ, ◌+◌, ◌<◌, ◌≤◌, List, ◌∷◌, ◌++◌, [], length, map, AllPairs, Contains}
use Rattle.std.specs.Prelude.{Option, Some, None, if◌then◌else◌, slice_get}
use Rattle.std.specs.declared.cmp.Ordering.TheVariants.{Less}
use Rattle.scope_types.specs.Order.{path_order}
use Rattle.tree_types.specs.declared.content.Node.{Node}
use Rattle.tree_types.specs.declared.counted_tree.NodeCount.{NodeCount}
use Rattle.tree_types.specs.Nodes.{no_parent}
use Rattle.tree_types.specs.PathsOf.{tree_paths}
use Rattle.tree_types.specs.Tree.{IsPreorder}
use Rattle.path_trie.specs.Trie.{IsIndex}
use Rattle.path_trie.specs.private.Linked.{linked_node}
use Rattle.tree_join.specs.private.Walk.{number_given, parent_number_at, path_or_none, node_before}
use Rattle.live_merge.specs.declared.walk.Walked.{Walked}

-- a node with its parent's number
abbrev pub with_number : List ℕ → Node → Node
with_number numbers n = record { parent = parent_number_at numbers n.parent; scope = n.scope }

-- the same of a node that may be there
abbrev pub numbered : List ℕ → Option Node → Option Node
numbered numbers None = None
numbered numbers (Some n) = Some (with_number numbers n)

-- the node that is next where as many are in order as have numbers, with its parent's number
abbrev pub next_of : List Node → List ℕ → Option Node
next_of nodes numbers = numbered numbers (slice_get nodes (length numbers))

-- the first of two nodes that are next
abbrev pub first_next : Option Node → Option Node → Option Node
first_next None b = b
first_next (Some x) None = Some x
first_next (Some x) (Some y) = if node_before y x then Some y else Some x

-- a walk whose next node this is has one number more, and any other has those that it had
abbrev pub Passes : List Node → Node → ℕ → List ℕ → List ℕ → Type 0
Passes nodes node number old new = ((next_of nodes old ≡ Some node) × (new ≡ old ++ number ∷ []))
    ⊎ ((next_of nodes old ≢ Some node) × (new ≡ old))

-- a walk over a tree's nodes in their order: the numbers of the first of them, which have these paths; what is in order
-- comes before the node that is next
pub record Follows (nodes : List Node) (numbers : List ℕ) (order : List Node) : Type 0 where
  pub few : length numbers ≤ length nodes
  pub numbers_are : (i : ℕ) → i < length numbers → (number_given numbers i < length order)
      × (path_or_none (tree_paths order) (number_given numbers i) ≡ path_or_none (tree_paths nodes) i)
  pub ahead : (i : ℕ) → i < length order → length numbers < length nodes
      → path_order (path_or_none (tree_paths order) i) (path_or_none (tree_paths nodes) (length numbers)) ≡ Less

-- walks over the nodes of two trees, and what they have put in order
pub record Walking (a b : List Node) (left right : List ℕ) (order : List Node) : Type 0 where
  pub left_in_order : IsPreorder a
  pub right_in_order : IsPreorder b
  pub left_follows : Follows a left order
  pub right_follows : Follows b right order
  pub ascend : AllPairs (λ m n. path_order m n ≡ Less) (tree_paths order)
  pub before : (i : ℕ) → i < length order → IsIndex (linked_node order i).parent i
  pub among : (i : ℕ) → i < length order
      → Contains (tree_paths a ++ tree_paths b) (path_or_none (tree_paths order) i)
  pub few : length order ≤ length left + length right
  pub nodes : length a + length b < no_parent

-- the nodes that are next in both walks
pub record AreNext (a b : List Node) (w : Walked) : Type 0 where
  pub left : w.left_next ≡ next_of a w.left.items
  pub right : w.right_next ≡ next_of b w.right.items

-- a count by the node's number
abbrev pub count_with : List ℕ → NodeCount → NodeCount
count_with numbers c = record { node = number_given numbers c.node; column = c.column; count = c.count }

-- the counts of both trees, by the nodes' numbers
abbrev pub both_counts : List ℕ → List NodeCount → List ℕ → List NodeCount → List NodeCount
both_counts left xs right ys = map (count_with left) xs ++ map (count_with right) ys
