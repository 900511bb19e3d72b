-- Merged entries as a tree in preorder.
use Rattle.std.specs.Prelude.{ℕ, List, map, All}
use Rattle.std.specs.List.{flat_map, range_with_len}
use Rattle.scope_types.specs.CallPaths.{ColumnPath}
use Rattle.scope_types.specs.Distinct.{ColumnRaw}
use Rattle.scope_types.specs.Raw.{Raw}
use Rattle.scope_types.specs.declared.path.Entry.{Entry}
use Rattle.scope_types.specs.declared.scope.Scope.{Scope}
use Rattle.scope_types.specs.Order.{path_order}
use Rattle.thread_cct.specs.Plan.{CountsSamples}
use Rattle.tree_types.specs.Ascending.{ascending}
use Rattle.tree_types.specs.Paths.{Path}
use Rattle.path_trie.specs.Trie.{trie_nodes}
use Rattle.scope_types.specs.Limits.{stripe_count}
use Rattle.stripe_table.specs.Ends.{SetValue, trie_of}

-- the nodes of merged entries in the order of their paths, which is preorder
abbrev pub joined_nodes : List Entry → List Path
joined_nodes entries = ascending path_order (trie_nodes entries)

-- and those of several lists of merged entries, each once
abbrev pub nodes_of_all : List (List Entry) → List Path
nodes_of_all parts = ascending path_order (flat_map trie_nodes parts)

-- the entries that the sixteen stripes' tries stand for, stripe by stripe
unfoldable pub stripe_parts : SetValue → List (List Entry)
stripe_parts set = map (trie_of set.stripes) (range_with_len 0 stripe_count)

-- what the stripes hold can be joined: each entry of theirs counts samples of one of so many columns
abbrev pub AreJoinable : SetValue → ℕ → Type 0
AreJoinable set columns = All (All (CountsSamples columns)) (stripe_parts set)

-- the call paths of samples, in order
abbrev pub sampled_paths : (Raw → List Scope) → List ColumnRaw → List ColumnPath
sampled_paths call_path samples = map (λ s. record { column = s.column; path = call_path s.raw }) samples
