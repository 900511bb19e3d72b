-- How entries are dealt to the stripes.
use Rattle.std.specs.Prelude.{ℕ, ◌==◌, List, map, filter}
use Rattle.std.specs.List.{range_with_len, zip}
use Rattle.scope_types.specs.declared.path.Entry.{Entry}
use Rattle.scope_types.specs.declared.path.Piece.{Piece}
use Rattle.scope_types.specs.Key.{stripe}
use Rattle.scope_types.specs.Limits.{stripe_count}

-- what each stripe has of entries, in order
unfoldable pub dealt : List Entry → List (List Entry)
dealt entries = map (λ number. filter (λ e. stripe e.path == number) entries) (range_with_len 0 stripe_count)

-- the piece that a stripe has, which is given with its number
abbrev pub numbered_piece : ℕ → ℕ × List Entry → Piece
numbered_piece chunk numbered = record { chunk = chunk; stripe = numbered.0; entries = numbered.1 }

-- the pieces of what the stripes have of a chunk
abbrev pub numbered_pieces : ℕ → List (List Entry) → List Piece
numbered_pieces chunk lists = map (numbered_piece chunk) (zip (range_with_len 0 stripe_count) lists)
