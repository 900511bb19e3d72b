-- When a stripe fits a plan, and how one stripe follows from another.
use Rattle.std.specs.Prelude.{◌≡◌, ℕ, ◌<◌, ◌≤◌, [], ◌∷◌, ◌++◌, length, sum_by}
use Rattle.std.specs.List.{flat_map, list_any}
use Rattle.tree_types.specs.Paths.{Path}
use Rattle.path_trie.specs.Trie.{count_of, has_node, all_prefixes, trie_nodes, samples_of, entry_scopes}
use Rattle.stripe_table.specs.Limits.{Chunks, dealt}
use Rattle.stripe_table.specs.Views.{occurrences}
use Rattle.stripe_table.specs.declared.stripe.Stripe.{Stripe}

-- a stripe fits the plan: it has k names, distinct chunks of the plan, and its trie stands for the entries of the
-- pieces that it names, in order. So for each column and path its count is the sum over these pieces; its nodes are the
-- nonempty prefixes of these pieces' paths; it has as many samples as these pieces, and no more nodes than they have
-- scopes
pub record Fits (plan : Chunks) (s k : ℕ) (x : Stripe) : Type 0 where
  pub long : length x.names ≡ k
  pub distinct : (c : ℕ) → occurrences c x.names ≤ 1
  pub below : (c : ℕ) → 0 < occurrences c x.names → c < length plan
  pub merged : x.trie ≡ flat_map (λ c. dealt plan c s) x.names
  pub counts : (column : ℕ) (path : Path)
      → count_of x.trie column path ≡ sum_by (λ c. count_of (dealt plan c s) column path) x.names
  pub nodes : (n : Path)
      → has_node (trie_nodes x.trie) n ≡ list_any (λ c. has_node (all_prefixes (dealt plan c s)) n) x.names
  pub samples : samples_of x.trie ≡ sum_by (λ c. samples_of (dealt plan c s)) x.names
  pub scopes : length (trie_nodes x.trie) ≤ sum_by (λ c. entry_scopes (dealt plan c s)) x.names

-- y has the names of x, and its trie stands for the same entries
abbrev pub IsUnchanged : Stripe → Stripe → Type 0
IsUnchanged x y = (y.names ≡ x.names) × (y.trie ≡ x.trie)

-- y is x with the piece of chunk c for stripe s behind the pieces that x has: x's names and entries are y's first
abbrev pub IsLonger : Chunks → ℕ → ℕ → Stripe → Stripe → Type 0
IsLonger plan s c x y = (y.names ≡ x.names ++ c ∷ []) × (y.trie ≡ x.trie ++ dealt plan c s)
