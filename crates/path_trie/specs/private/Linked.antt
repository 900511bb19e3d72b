-- The fields of a trie, and what holds of them.
use Rattle.std.specs.Prelude.{◌≡◌, ℕ, ◌+◌, ◌<◌, ◌≤◌, ◌%◌, ◌^◌, ◌≢◌, ◌==◌, ◌&&◌, List, [], length, map, take, All}
use Rattle.std.specs.Prelude.{slice_index_or, Option, Some, Bool, if◌then◌else◌}
use Rattle.std.specs.Map.{lookup}
use Rattle.scope_types.specs.declared.scope.RootKind.TheVariants.{Thread}
use Rattle.scope_types.specs.declared.scope.Scope.{Scope}
use Rattle.scope_types.specs.declared.scope.Scope.TheVariants.{Root}
use Rattle.scope_types.specs.declared.path.Entry.{Entry}
use Rattle.scope_types.specs.Limits.{most_samples, most_scopes_in_all}
use Rattle.scope_types.specs.contracts.scope.ScopePartialEq.TheImpl.{ghosts as scopes}
use Rattle.tree_types.specs.declared.content.Node.{Node}
use Rattle.tree_types.specs.Paths.{Path}
use Rattle.tree_types.specs.Nodes.{no_parent}
use Rattle.tree_types.specs.PathsOf.{tree_paths, path_below}
use Rattle.path_trie.specs.declared.trie.PathEnd.{PathEnd}
use Rattle.path_trie.specs.Trie.{IsIndex, path_at, counted_entry, trie_nodes, samples_of}

-- a parent's index and a scope
abbrev pub Key : Type 0
Key = ℕ × Scope

-- the nodes that do not lie right after their parents: the index of each by its key
abbrev pub Branches : Type 0
Branches = List (Key × ℕ)

-- the same parent and the same scope
abbrev pub same_key : Key → Key → Bool
same_key a b = a.0 == b.0 && scopes.eq a.1 b.1

-- the index of the branch with a key
abbrev pub branch_at : Branches → Key → Option ℕ
branch_at branches key = lookup (same_key key) branches

-- what a look-up past the last node gives
abbrev pub no_node : Node
no_node = record { parent = no_parent; scope = Root Thread }

-- the node with an index
abbrev pub linked_node : List Node → ℕ → Node
linked_node nodes i = slice_index_or nodes i no_node

-- the node with this parent and this scope
abbrev pub node_with : ℕ → Scope → Node
node_with parent scope = record { parent = parent; scope = scope }

-- the index right after a node's; after no node's it is 0
abbrev pub next_index : ℕ → ℕ
next_index parent = (parent + 1) % 2 ^ 32

-- no node has this parent and scope
abbrev pub IsAbsent : List Node → ℕ → Scope → Type 0
IsAbsent nodes parent scope = (i : ℕ) → i < length nodes → linked_node nodes i ≡ node_with parent scope → ⊥

-- the branch that a key has once another is put at an index, unless the index is the next one
abbrev pub with_branch : Bool → Key → ℕ → Option ℕ → Key → Option ℕ
with_branch is_next key index old q = if is_next then old else if same_key key q then Some index else old

-- nodes, each after its parent, each path once
pub record Rooted (nodes : List Node) : Type 0 where
  pub long : length (tree_paths nodes) ≡ length nodes
  pub before : (i : ℕ) → i < length nodes → IsIndex (linked_node nodes i).parent i
  pub below : (i : ℕ) → i < length nodes
      → slice_index_or (tree_paths nodes) i [] ≡ path_below (tree_paths nodes) (linked_node nodes i)
  pub once : (i j : ℕ) → i < length nodes → j < length nodes
      → slice_index_or (tree_paths nodes) i [] ≡ slice_index_or (tree_paths nodes) j [] → i ≡ j

-- and those of them that do not lie right after their parents, by key
pub record Linked (nodes : List Node) (branches : Branches) : Type 0 where
  pub rooted : Rooted nodes
  pub listed : (i : ℕ) → i < length nodes → i ≢ next_index (linked_node nodes i).parent
      → branch_at branches ((linked_node nodes i).parent, (linked_node nodes i).scope) ≡ Some i
  pub found : (parent : ℕ) (scope : Scope) (i : ℕ) → branch_at branches (parent, scope) ≡ Some i
      → (i < length nodes) × (linked_node nodes i ≡ node_with parent scope)

-- the indices of the first paths are indices of all, with the same paths
pub record Extends (old new : List Path) : Type 0 where
  pub longer : length old ≤ length new
  pub same : (index : ℕ) → IsIndex index (length old) → path_at new index ≡ path_at old index

-- nodes at the shortest prefixes of a path, the shortest first
pub record IsKept (nodes : List Node) (kept : List ℕ) (path : Path) : Type 0 where
  pub long : length kept ≤ length path
  pub within : (i : ℕ) → i < length kept → slice_index_or kept i 0 < length nodes
  pub at : (i : ℕ) → i < length kept
      → path_at (tree_paths nodes) (slice_index_or kept i 0) ≡ take (i + 1) path

-- 1 where the index is the last node's, which has no children, and else 0
abbrev pub last_one : List Node → ℕ → ℕ
last_one nodes index = if next_index index == length nodes then 1 else 0

-- the entries that ends at nodes count
abbrev pub entries_at : List Node → List PathEnd → List Entry
entries_at nodes ends = map (counted_entry (tree_paths nodes)) ends

-- an end of a column at a node
abbrev pub ends_at : ℕ → ℕ → PathEnd → Bool
ends_at node column e = e.node == node && e.column == column

-- what holds of the nodes and the ends
pub record IsTrie (nodes : List Node) (branches : Branches) (ends : List PathEnd) : Type 0 where
  pub linked : Linked nodes branches
  pub indices : All (λ e. IsIndex e.node (length nodes)) ends
  pub nodes_are : tree_paths nodes ≡ trie_nodes (entries_at nodes ends)
  pub few_nodes : length nodes ≤ most_scopes_in_all
  pub few_samples : samples_of (entries_at nodes ends) ≤ most_samples
