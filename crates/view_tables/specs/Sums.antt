-- What the exclusive values of the rows of a view add up to.
use Rattle.std.specs.Prelude.{◌≡◌, ℕ, zero, suc, ◌&&◌, nat_lt, Bool, true, false, List, [], ◌∷◌, ◌++◌, length}
use Rattle.std.specs.Prelude.{reverse, take, sum_by}
use Rattle.std.specs.List.{list_any}
use Rattle.scope_types.specs.CallPaths.{ColumnPath}
use Rattle.tree_types.specs.Paths.{Path}
use Rattle.view_tables.specs.Flat.{call_line, frame_proc}
use Rattle.view_tables.specs.Views.{Item, Sequences, begins_with, rows_under}

-- whether the sequence of a sample's innermost frame begins with the chain and goes on after it
abbrev pub goes_on : List Item → Sequences → Bool
goes_on chain sample =
    list_any (λ items. begins_with chain items && nat_lt (length chain) (length items)) (take 1 sample)

-- from the innermost scope up: a call or a statement, and the procedure whose frame it ends
abbrev pub ends_frame : Path → Bool
ends_frame [] = false
ends_frame (s ∷ outer) = nat_lt 0 (length (call_line s)) && nat_lt 0 (length (frame_proc outer))

-- a path that ends in a frame
abbrev pub HasFrame : ColumnPath → Type 0
HasFrame p = ends_frame (reverse p.path) ≡ true

-- the exclusive values of all rows that lie a given number of levels further down than those right under the chain
abbrev pub exclusive_at : ℕ → List Sequences → ℕ → List Item → ℕ
exclusive_at period samples zero chain = sum_by (λ r. r.exclusive) (rows_under period samples chain)
exclusive_at period samples (suc level) chain =
    sum_by (λ r. exclusive_at period samples level (chain ++ r.item ∷ [])) (rows_under period samples chain)
