-- The plan of a merge: the distinct raw paths of all columns, dealt out in chunks, and what they expand to.
use Rattle.std.specs.Prelude.{ℕ, ◌+◌, ◌*◌, ◌/◌, ◌<◌, ◌≤◌, ◌==◌, nat_lt, List, [], length, map, filter, sum_by}
use Rattle.std.specs.Prelude.{take, drop, slice_index_or, All, Result, Ok, Err, if◌then◌else◌}
use Rattle.std.specs.List.{flat_map, enumerate_from, range_with_len}
use Rattle.scope_types.specs.declared.frame.Counted.{Counted}
use Rattle.scope_types.specs.declared.path.Entry.{Entry}
use Rattle.scope_types.specs.declared.path.Piece.{Piece}
use Rattle.scope_types.specs.declared.scope.Scope.{Scope}
use Rattle.scope_types.specs.Raw.{Raw}
use Rattle.scope_types.specs.Distinct.{scopes_in}
use Rattle.scope_types.specs.Key.{stripe}
use Rattle.scope_types.specs.Limits.{most_scopes_in_all, stripe_count}
use Rattle.thread_cct.specs.declared.merge_plan.TooManyScopes.{TooManyScopes}

-- a distinct raw path of a column, and how many samples have it
pub record PlannedPath : Type 0 where
  pub column : ℕ
  pub path : Raw
  pub count : ℕ

-- how many columns there are, and their distinct raw paths, column by column
pub record Planned : Type 0 where
  pub columns : ℕ
  pub paths : List PlannedPath

-- the paths of a column, which is given by its number
abbrev pub paths_of_column : ℕ × List Counted → List PlannedPath
paths_of_column numbered = map (λ c. record { column = numbered.0; path = c.path; count = c.count }) numbered.1

-- the plan of counted paths, which lie column by column, in order of first sample
abbrev pub plan_of : List (List Counted) → Planned
plan_of tables = record { columns = length tables; paths = flat_map paths_of_column (enumerate_from 0 tables) }

-- ---- the limit on scopes

-- how many scopes the plan's call paths have together
abbrev pub planned_scopes : (Raw → List Scope) → Planned → ℕ
planned_scopes call_path plan = sum_by (λ p. length (call_path p.path)) plan.paths

-- whether a plan fits what expands raw paths: the call paths have few enough scopes
pub record FitsExpansion (plan : Planned) (call_path : Raw → List Scope) : Type 0 where
  pub few : planned_scopes call_path plan ≤ most_scopes_in_all

-- the refusal of one scope too many
abbrev pub too_many_scopes : TooManyScopes
too_many_scopes = record {}

-- the plan of counted paths, unless their call paths have too many scopes
abbrev pub few_scopes : (Raw → List Scope) → List (List Counted) → Result Planned TooManyScopes
few_scopes call_path tables = if nat_lt most_scopes_in_all (scopes_in call_path tables) then Err too_many_scopes
    else Ok (plan_of tables)

-- ---- chunks and pieces

-- how many paths a chunk has; the last may have fewer
abbrev pub chunk_paths : ℕ
chunk_paths = 64

-- the most chunks that a plan has
abbrev pub most_chunks : ℕ
most_chunks = 16384

-- how many chunks a plan has
abbrev pub chunks_in : Planned → ℕ
chunks_in plan = (length plan.paths + 63) / chunk_paths

-- a chunk of a list, by its number from 0
abbrev pub chunk_of : {X : Type 0} → List X → ℕ → List X
chunk_of xs chunk = take chunk_paths (drop (chunk_paths * chunk) xs)

-- a path of the plan, expanded
abbrev pub expanded_path : (Raw → List Scope) → PlannedPath → Entry
expanded_path call_path p = record { column = p.column; count = p.count; path = call_path p.path }

-- all paths of the plan, expanded
abbrev pub expanded_paths : (Raw → List Scope) → Planned → List Entry
expanded_paths call_path plan = map (expanded_path call_path) plan.paths

-- the expanded plan: its chunks
unfoldable pub expanded : Planned → (Raw → List Scope) → List (List Entry)
expanded plan call_path = map (chunk_of (expanded_paths call_path plan)) (range_with_len 0 (chunks_in plan))

-- the piece of a chunk that is dealt to a stripe, in order
abbrev pub piece_of : List (List Entry) → ℕ → ℕ → Piece
piece_of chunks chunk number = record {
  chunk = chunk;
  stripe = number;
  entries = filter (λ e. stripe e.path == number) (slice_index_or chunks chunk []);
}

-- the pieces of a chunk, one for each stripe
abbrev pub pieces_of : List (List Entry) → ℕ → List Piece
pieces_of chunks chunk = map (piece_of chunks chunk) (range_with_len 0 stripe_count)

-- the entries of all pieces
abbrev pub all_entries : List (List Entry) → List Entry
all_entries chunks = flat_map (λ chunk. flat_map (λ piece. piece.entries) (pieces_of chunks chunk))
    (range_with_len 0 (length chunks))

-- the entry counts samples: some, of one of a given number of columns, at a path that has scopes
pub record CountsSamples (columns : ℕ) (e : Entry) : Type 0 where
  pub some : 0 < e.count
  pub path : 0 < length e.path
  pub column : e.column < columns

-- whether an expanded plan can be merged: each of its entries counts samples of one of a given number of columns
pub record IsMergeable (chunks : List (List Entry)) (columns : ℕ) : Type 0 where
  pub entries : All (All (CountsSamples columns)) chunks
