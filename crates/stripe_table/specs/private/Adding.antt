-- A piece that is added to a stripe.
use Rattle.std.specs.Prelude.{ℕ, ◌≡◌, ◌+◌, ◌<◌, ◌≤◌, ◌||◌, [], ◌∷◌, ◌++◌, length, slice_index}
use Rattle.scope_types.specs.declared.path.Piece.{Piece}
use Rattle.scope_types.specs.Limits.{most_samples, most_scopes_in_all}
use Rattle.tree_types.specs.Paths.{Path}
use Rattle.path_trie.specs.Trie.{count_of, has_node, all_prefixes, trie_nodes, samples_of, entry_scopes}
use Rattle.stripe_table.specs.declared.stripe.Addition.{Addition}
use Rattle.stripe_table.specs.declared.stripe.Addition.TheVariants.{Added, There, Failed}
use Rattle.stripe_table.specs.Stripe.{StripeValue}
use Rattle.stripe_table.specs.Views.{occurrences}

-- the same, which points at an index
abbrev pub pointing_at : ℕ → StripeValue → StripeValue
pointing_at p x = record { names = x.names; index = p; trie = x.trie }

-- the stripe and the piece are together within the limits of a trie
pub record HasRoom (x : StripeValue) (piece : Piece) : Type 0 where
  pub samples : samples_of x.trie + samples_of piece.entries ≤ most_samples
  pub nodes : length (trie_nodes x.trie) + entry_scopes piece.entries ≤ most_scopes_in_all

-- y is x with the piece: its chunk is the last name, and the trie has its entries too
pub record TakesIn (x : StripeValue) (piece : Piece) (y : StripeValue) : Type 0 where
  pub names : y.names ≡ x.names ++ piece.chunk ∷ []
  pub merged : y.trie ≡ x.trie ++ piece.entries
  pub counts : (column : ℕ) (path : Path)
      → count_of y.trie column path ≡ count_of x.trie column path + count_of piece.entries column path
  pub nodes : (n : Path)
      → has_node (trie_nodes y.trie) n ≡ (has_node (trie_nodes x.trie) n || has_node (all_prefixes piece.entries) n)
  pub samples : samples_of y.trie ≡ samples_of x.trie + samples_of piece.entries
  pub scopes : length (trie_nodes y.trie) ≤ length (trie_nodes x.trie) + entry_scopes piece.entries

-- the piece was added; or its chunk is a name, which the stripe points at now; or the stripe is as it was
abbrev pub AddedAs : Piece → StripeValue → StripeValue → Addition → Type 0
AddedAs q x y (Added k) = (k ≡ length x.names) × (occurrences q.chunk x.names ≡ 0) × TakesIn x q y
AddedAs q x y (There k p) = (k ≡ length x.names) × (p < length x.names) × (slice_index x.names p ≡ q.chunk)
    × (y ≡ pointing_at p x)
AddedAs q x y (Failed k memory) = (k ≡ length x.names) × (y ≡ x)
