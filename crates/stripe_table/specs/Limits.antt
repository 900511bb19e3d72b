-- Expanded plans, their pieces, and their limits.
use Rattle.std.specs.Prelude.{ℕ, ◌≡◌, ◌<◌, ◌≤◌, List, length, sum_by}
use Rattle.scope_types.specs.declared.path.Entry.{Entry}
use Rattle.scope_types.specs.declared.path.Piece.{Piece}
use Rattle.scope_types.specs.Limits.{most_samples, most_scopes_in_all, stripe_count}
use Rattle.thread_cct.specs.Plan.{piece_of, most_chunks}
use Rattle.path_trie.specs.Trie.{samples_of, entry_scopes}

-- an expanded plan: the entries of each chunk
abbrev pub Chunks : Type 0
Chunks = List (List Entry)

-- the limits of an expanded plan: a given number of chunks, samples and scopes at most
pub record IsLimited (plan : Chunks) : Type 0 where
  pub chunks : length plan ≤ most_chunks
  pub samples : sum_by samples_of plan ≤ most_samples
  pub scopes : sum_by entry_scopes plan ≤ most_scopes_in_all

-- the entries that chunk c deals to stripe s
abbrev pub dealt : Chunks → ℕ → ℕ → List Entry
dealt plan c s = (piece_of plan c s).entries

-- the piece is the plan's
pub record IsPieceOf (plan : Chunks) (piece : Piece) : Type 0 where
  pub chunk : piece.chunk < length plan
  pub stripe : piece.stripe < stripe_count
  pub is : piece ≡ piece_of plan piece.chunk piece.stripe
