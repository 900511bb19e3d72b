-- Walks over several tries at once, whose nodes are put in one preorder.
use Rattle.std.specs.Prelude.{◌≡◌, ◌≢◌, ℕ, ◌-◌, ◌<◌, ◌≤◌, ◌==◌, ◌&&◌, ◌||◌, ◌⊎◌, nat_lt, List, [], ◌∷◌, ◌++◌, length}
use Rattle.std.specs.Prelude.{map, All, AllPairs, Contains, Bool, true, false, Option, None, Some, IfSome}
use Rattle.std.specs.Prelude.{slice_get, slice_index_or, slice_set, if◌then◌else◌}
use Rattle.std.specs.Borrow.{Bor}
use Rattle.std.specs.List.{flat_map}
use Rattle.std.specs.Ordering.{is_lt}
use Rattle.std.specs.declared.cmp.Ordering.TheVariants.{Less}
use Rattle.scope_types.specs.declared.scope.Scope.{Scope}
use Rattle.scope_types.specs.declared.path.Entry.{Entry}
use Rattle.scope_types.specs.Limits.{most_scopes_in_all}
use Rattle.scope_types.specs.Order.{scope_order, path_order}
use Rattle.tree_types.specs.declared.content.Node.{Node}
use Rattle.tree_types.specs.Nodes.{no_parent}
use Rattle.tree_types.specs.Paths.{Path}
use Rattle.tree_types.specs.PathsOf.{tree_paths}
use Rattle.path_trie.specs.declared.trie.PathEnd.{PathEnd}
use Rattle.path_trie.specs.Trie.{IsIndex, counted_entry, trie_nodes}
use Rattle.path_trie.specs.private.Linked.{linked_node, next_index, Rooted}
use Rattle.tree_join.specs.declared.children.Children.{Children}
use Rattle.tree_join.specs.declared.walker.Walker.{Walker}
use Rattle.tree_join.specs.private.Children.{Chained, SortedChildren}

-- the number that an index has got, or no parent's
abbrev pub number_given : List ℕ → ℕ → ℕ
number_given numbers index = slice_index_or numbers index no_parent

-- the number of a node's parent
abbrev pub parent_number_at : List ℕ → ℕ → ℕ
parent_number_at numbers parent = if parent == no_parent then no_parent else number_given numbers parent

-- a node with its parent's number
abbrev pub renumbered : List Node → List ℕ → ℕ → Node
renumbered nodes numbers index =
    record {
      parent = parent_number_at numbers (linked_node nodes index).parent;
      scope = (linked_node nodes index).scope;
    }

-- the path with an index, and else no scopes
abbrev pub path_or_none : List Path → ℕ → Path
path_or_none paths i = slice_index_or paths i []

-- nodes of a trie: with each path there is what comes before its end
pub record AreNodes (nodes : List Node) : Type 0 where
  pub few : length nodes ≤ most_scopes_in_all
  pub rooted : Rooted nodes
  pub closed : (i : ℕ) (f r : Path) (s : Scope) → i < length nodes → path_or_none (tree_paths nodes) i ≡ f ++ s ∷ r
      → (c : ℕ) × (c < length nodes) × (path_or_none (tree_paths nodes) c ≡ f ++ s ∷ [])

-- where two paths part, a has the smaller scope
pub record Parts (a b : Path) : Type 0 where
  pub front : Path
  pub left : Scope
  pub right : Scope
  pub left_rest : Path
  pub right_rest : Path
  pub is_left : a ≡ front ++ left ∷ left_rest
  pub is_right : b ≡ front ++ right ∷ right_rest
  pub less : scope_order left right ≡ Less

-- a path is what comes below another, or that itself
pub record IsBelow (a b : Path) : Type 0 where
  pub rest : Path
  pub is : b ≡ a ++ rest

-- a walk over one trie's nodes: the numbers of those that are in order; the stack has the indices that are next, the
-- first at its end, with all that is below them
pub record Walks (nodes : List Node) (numbers stack : List ℕ) (order : List Node) : Type 0 where
  pub long : length numbers ≡ length nodes
  pub numbered : (q : ℕ) → q < length nodes → number_given numbers q ≢ no_parent
      → (number_given numbers q < length order)
      × (path_or_none (tree_paths order) (number_given numbers q) ≡ path_or_none (tree_paths nodes) q)
  pub indices : (j : ℕ) → j < length stack → slice_index_or stack j 0 < length nodes
  pub parents : (j : ℕ) → j < length stack → (linked_node nodes (slice_index_or stack j 0)).parent ≢ no_parent
      → number_given numbers (linked_node nodes (slice_index_or stack j 0)).parent ≢ no_parent
  pub ahead : (i j : ℕ) → i < length order → j < length stack
      → path_order (path_or_none (tree_paths order) i)
      (path_or_none (tree_paths nodes) (slice_index_or stack j 0)) ≡ Less
  pub apart : (i j : ℕ) → i < j → j < length stack
      → Parts (path_or_none (tree_paths nodes) (slice_index_or stack j 0))
      (path_or_none (tree_paths nodes) (slice_index_or stack i 0))
  pub covered : (q : ℕ) → q < length nodes → number_given numbers q ≡ no_parent
      → (j : ℕ) × (j < length stack)
      × IsBelow (path_or_none (tree_paths nodes) (slice_index_or stack j 0)) (path_or_none (tree_paths nodes) q)

-- the nodes of the trie that is walked over
abbrev pub nodes_in : Walker → List Node
nodes_in w = w.children.nodes.now

-- the entries of the trie that is walked over
abbrev pub walked_entries : Walker → List Entry
walked_entries w = map (counted_entry (tree_paths (nodes_in w))) w.ends.now

-- the node with the index that is next, if one is, with its parent's number
abbrev pub next_node : List Node → List ℕ → Option ℕ → Option Node
next_node nodes numbers None = None
next_node nodes numbers (Some index) = Some (renumbered nodes numbers index)

-- the node that is next, with its parent's number
abbrev pub head_node : Walker → Option Node
head_node w = next_node (nodes_in w) w.numbers.items (slice_get w.stack.items (length w.stack.items - 1))

-- what a walker is read by
pub record IsReady (w : Walker) : Type 0 where
  pub chained : Chained (nodes_in w) w.children.lasts.items w.children.previous.items
  pub few : length (nodes_in w) ≤ most_scopes_in_all
  pub long : length w.numbers.items ≡ length (nodes_in w)
  pub indices : All (λ p. p < length (nodes_in w)) w.stack.items
  pub before : (i : ℕ) → i < length (nodes_in w) → IsIndex (linked_node (nodes_in w) i).parent i

-- a walk over a trie, of whose nodes those that are numbered are in order
pub record WalksTrie (children : Children) (ends : List PathEnd) (numbers stack : List ℕ) (order : List Node)
    : Type 0 where
  pub chained : Chained children.nodes.now children.lasts.items children.previous.items
  pub are : AreNodes children.nodes.now
  pub nodes_are : tree_paths children.nodes.now ≡ trie_nodes (map (counted_entry (tree_paths children.nodes.now)) ends)
  pub ends_in : All (λ e. IsIndex e.node (length children.nodes.now)) ends
  pub walks : Walks children.nodes.now numbers stack order

-- the same of a walker's fields
abbrev pub IsWalker : List Node → Walker → Type 0
IsWalker order w = WalksTrie w.children w.ends.now w.numbers.items w.stack.items order

-- walks over tries of these entries, and what they have put in order
pub record Walking (parts : List (List Entry)) (walkers : List Walker) (order : List Node) : Type 0 where
  pub parts_are : map walked_entries walkers ≡ parts
  pub each : All (IsWalker order) walkers
  pub ascend : AllPairs (λ a b. path_order a b ≡ Less) (tree_paths order)
  pub before : (i : ℕ) → i < length order → IsIndex (linked_node order i).parent i
  pub among : (i : ℕ) → i < length order → Contains (flat_map trie_nodes parts) (path_or_none (tree_paths order) i)
  pub few : length (flat_map trie_nodes parts) ≤ most_scopes_in_all

-- whether a node comes before another, where both are next: the one whose parent is deeper, and below one parent
-- the one with the smaller scope
abbrev pub node_before : Node → Node → Bool
node_before a b = nat_lt (next_index b.parent) (next_index a.parent)
    || (next_index b.parent == next_index a.parent && is_lt (scope_order a.scope b.scope))

-- the index that is next has got a number, and its children are next
pub record Advances (number : ℕ) (w v : Walker) : Type 0 where
  pub rest : List ℕ
  pub index : ℕ
  pub popped : w.stack.items ≡ rest ++ index ∷ []
  pub numbers : v.numbers.items ≡ slice_set w.numbers.items index number
  pub kids : List ℕ
  pub kids_are : SortedChildren (nodes_in w) index kids
  pub stack : v.stack.items ≡ rest ++ kids
  pub children : v.children ≡ w.children
  pub ends : v.ends ≡ w.ends

-- a walk whose next node is this one advances, and another one stays
abbrev pub Passes : Node → ℕ → Walker → Walker → Type 0
Passes node number w v = ((head_node w ≡ Some node) × Advances number w v)
    ⊎ ((head_node w ≢ Some node) × (v ≡ w))

-- each of the first walks passes a node, and the others are as they were
pub record PassUpTo (k : ℕ) (node : Node) (number : ℕ) (old new : List Walker) : Type 0 where
  pub long : length new ≡ length old
  pub first : (i : ℕ) (d : Walker) → i < k → i < length old
      → Passes node number (slice_index_or old i d) (slice_index_or new i d)
  pub rest : (i : ℕ) (d : Walker) → k ≤ i → slice_index_or new i d ≡ slice_index_or old i d

-- a node that comes before what is next in a walk, if anything is
abbrev pub Leads : Node → Walker → Type 0
Leads node w = IfSome (head_node w) (λ h. node_before node h ≡ true)

-- a node before which nothing comes that is next in a walk
abbrev pub NotAfter : Node → Walker → Type 0
NotAfter node w = IfSome (head_node w) (λ h. node_before h node ≡ false)

-- nothing that is next in a walk comes before a limit; without a limit nothing is next
abbrev pub EndsBy : Option (ℕ × Node) → Walker → Type 0
EndsBy None w = head_node w ≡ None
EndsBy (Some limit) w = NotAfter limit.1 w

-- the first of two nodes that are next
abbrev pub earlier_of : Option (ℕ × Node) → ℕ → Option Node → Option (ℕ × Node)
earlier_of first at None = first
earlier_of None at (Some node) = Some (at, node)
earlier_of (Some first) at (Some node) = if node_before node first.1 then Some (at, node) else Some first

-- a node that is lent, and the index of its walk
abbrev pub lent_node : Option (ℕ × Bor Node) → Option (ℕ × Node)
lent_node None = None
lent_node (Some first) = Some (first.0, first.1.now)

-- of the first k walks but one, the first of the nodes that are next, with the index of its walk
abbrev pub FirstBut : List Walker → ℕ → ℕ → Option (ℕ × Node) → Type 0
FirstBut walkers left_out k None = (i : ℕ) (d : Walker) → i < k → i ≢ left_out
    → head_node (slice_index_or walkers i d) ≡ None
FirstBut walkers left_out k (Some first) = (first.0 < length walkers) × (first.0 ≢ left_out)
    × ((d : Walker) → head_node (slice_index_or walkers first.0 d) ≡ Some first.1)
    × ((i : ℕ) (d : Walker) → i < k → i ≢ left_out → NotAfter first.1 (slice_index_or walkers i d))
