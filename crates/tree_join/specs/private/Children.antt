-- The children of nodes, siblings in order.
use Rattle.std.specs.Prelude.{◌≡◌, ℕ, zero, suc, ◌+◌, ◌<◌, ◌≤◌, List, [], ◌∷◌, length, All, AllPairs, Contains}
use Rattle.std.specs.Prelude.{◌==◌, map, reverse, slice_index_or, if◌then◌else◌}
use Rattle.std.specs.List.Sorted.{IsPermutation, IsSorted}
use Rattle.std.specs.Ordering.{nat_cmp, ordering_then}
use Rattle.std.specs.declared.cmp.Ordering.{Ordering}
use Rattle.std.specs.declared.cmp.Ordering.TheVariants.{Less}
use Rattle.scope_types.specs.Order.{scope_order}
use Rattle.tree_types.specs.declared.content.Node.{Node}
use Rattle.tree_types.specs.Nodes.{no_parent}
use Rattle.path_trie.specs.private.Linked.{linked_node, next_index}
use Rattle.tree_join.specs.declared.children.Sibling.{Sibling}

-- the index right after the parent of a node
abbrev pub slot_at : List Node → ℕ → ℕ
slot_at nodes i = next_index (linked_node nodes i).parent

-- a node among its siblings
abbrev pub sibling_at : List Node → ℕ → Sibling
sibling_at nodes i = record { scope = (linked_node nodes i).scope; index = i }

-- the nodes below k whose parent is right before a slot, the last first
abbrev pub siblings_below : List Node → ℕ → ℕ → List Sibling
siblings_below nodes slot zero = []
siblings_below nodes slot (suc k) = if slot_at nodes k == slot
    then sibling_at nodes k ∷ siblings_below nodes slot k else siblings_below nodes slot k

-- a node, if there is one, and the siblings before it
abbrev pub siblings_from : List Node → ℕ → List Sibling
siblings_from nodes i = if i == no_parent then [] else sibling_at nodes i ∷ siblings_below nodes (slot_at nodes i) i

-- the index of the first sibling, if there is one
abbrev pub first_index : List Sibling → ℕ
first_index [] = no_parent
first_index (s ∷ _) = s.index

-- of the first k nodes, the last of each slot, and the sibling before each
pub record Chains (nodes : List Node) (lasts previous : List ℕ) (k : ℕ) : Type 0 where
  pub slots : length lasts ≡ length nodes + 1
  pub long : length previous ≡ length nodes
  pub last : (slot : ℕ) → slot ≤ length nodes
      → slice_index_or lasts slot no_parent ≡ first_index (siblings_below nodes slot k)
  pub before : (i : ℕ) → i < k
      → slice_index_or previous i no_parent ≡ first_index (siblings_below nodes (slot_at nodes i) i)

-- what children are found by
abbrev pub Chained : List Node → List ℕ → List ℕ → Type 0
Chained nodes lasts previous = Chains nodes lasts previous (length nodes)

-- siblings by their scopes
abbrev pub sibling_order : Sibling → Sibling → Ordering
sibling_order a b = ordering_then (scope_order a.scope b.scope) (nat_cmp a.index b.index)

-- the indices of siblings, the last first
abbrev pub indices_down : List Sibling → List ℕ
indices_down group = map (λ s. s.index) (reverse group)

-- the children of a node as they are found: the nodes of its slot, sorted, the last first
pub record SortedChildren (nodes : List Node) (parent : ℕ) (kids : List ℕ) : Type 0 where
  pub group : List Sibling
  pub moved : IsPermutation (siblings_below nodes (next_index parent) (length nodes)) group
  pub sorted : IsSorted sibling_order group
  pub kids_are : kids ≡ indices_down group

-- the children of a node, the last sibling first
pub record AreChildren (nodes : List Node) (parent : ℕ) (kids : List ℕ) : Type 0 where
  pub only : All (λ k. (k < length nodes) × ((linked_node nodes k).parent ≡ parent)) kids
  pub all : (i : ℕ) → i < length nodes → (linked_node nodes i).parent ≡ parent → Contains kids i
  pub fall : AllPairs (λ a b. scope_order (linked_node nodes b).scope (linked_node nodes a).scope ≡ Less) kids
