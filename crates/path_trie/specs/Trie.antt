-- The nodes and the counts of merged entries: a calling context tree (HPCToolkit's manual, "Calling Context Tree").
use Rattle.std.specs.Prelude.{ℕ, ◌≡◌, ◌<◌, ◌≢◌, ◌==◌, ◌&&◌, List, [], ◌∷◌, ◌++◌, length, fold, filter, sum_by}
use Rattle.std.specs.Prelude.{slice_index_or, slice_get, Some, Bool}
use Rattle.std.specs.Prelude.{if◌then◌else◌}
use Rattle.std.specs.List.{flat_map, list_any}
use Rattle.std.specs.Ordering.{eq_by_cmp}
use Rattle.scope_types.specs.declared.path.Entry.{Entry}
use Rattle.scope_types.specs.Order.{path_order}
use Rattle.tree_types.specs.declared.content.Node.{Node}
use Rattle.tree_types.specs.Paths.{Path, prefixes}
use Rattle.tree_types.specs.Nodes.{no_parent, parent_number, own_scope}
use Rattle.path_trie.specs.declared.trie.PathEnd.{PathEnd}

-- two paths that tie in the order, and so are one
abbrev pub same_path : Path → Path → Bool
same_path a b = eq_by_cmp path_order a b

-- whether a path is among the nodes
abbrev pub has_node : List Path → Path → Bool
has_node ns n = list_any (same_path n) ns

-- the nodes with one more, which goes last unless it is there
abbrev pub with_node : List Path → Path → List Path
with_node ns n = if has_node ns n then ns else ns ++ n ∷ []

-- the nonempty prefixes of the entries' paths, one path after the other, shortest first
abbrev pub all_prefixes : List Entry → List Path
all_prefixes entries = flat_map (λ e. prefixes e.path) entries

-- the nodes of merged entries: each of these prefixes once, in order of first appearance
unfoldable pub trie_nodes : List Entry → List Path
trie_nodes entries = fold with_node [] (all_prefixes entries)

-- the path of the node with an index
abbrev pub nth_path : List Path → ℕ → Path
nth_path ns at = slice_index_or ns at []

-- a node as it is kept: its parent's index, and its own scope
abbrev pub trie_node : List Path → Path → Node
trie_node ns n = record { parent = parent_number ns n; scope = own_scope n }

-- where a path ends: at a node's index, which is below n, or at no node, where it has no scopes
abbrev pub IsIndex : ℕ → ℕ → Type 0
IsIndex index n = index ≢ no_parent → index < n

-- parents come before their children
abbrev pub StandBefore : List Node → Type 0
StandBefore nodes = (i : ℕ) (n : Node) → slice_get nodes i ≡ Some n → IsIndex n.parent i

-- the path that ends there
abbrev pub path_at : List Path → ℕ → Path
path_at ns index = if index == no_parent then [] else slice_index_or ns index []

-- the entry that an end counts
abbrev pub counted_entry : List Path → PathEnd → Entry
counted_entry ns e = record { column = e.column; count = e.count; path = path_at ns e.node }

-- the entries of a column and a path
abbrev pub entries_with_path : List Entry → ℕ → Path → List Entry
entries_with_path entries column path = filter (λ e. e.column == column && same_path path e.path) entries

-- how many samples entries count
abbrev pub samples_of : List Entry → ℕ
samples_of entries = sum_by (λ e. e.count) entries

-- and of these, how many samples of a column have a path
abbrev pub count_of : List Entry → ℕ → Path → ℕ
count_of entries column path = samples_of (entries_with_path entries column path)

-- how many scopes the entries' paths have together
abbrev pub entry_scopes : List Entry → ℕ
entry_scopes entries = sum_by (λ e. length e.path) entries
