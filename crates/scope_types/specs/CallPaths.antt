-- The call paths of samples, and how a list of them is kept: each path once with its count.
use Rattle.std.specs.Prelude.{ℕ, List, replicate}
use Rattle.std.specs.List.{flat_map}
use Rattle.scope_types.specs.declared.scope.Scope.{Scope}
use Rattle.scope_types.specs.declared.path.Entry.{Entry}

-- the call path of one sample of a column
pub record ColumnPath : Type 0 where
  pub column : ℕ
  pub path : List Scope

-- the path of an entry
abbrev pub entry_path : Entry → ColumnPath
entry_path e = record { column = e.column; path = e.path }

-- each path as often as its entry says
unfoldable pub each_path : List Entry → List ColumnPath
each_path entries = flat_map (λ e. replicate e.count (entry_path e)) entries
