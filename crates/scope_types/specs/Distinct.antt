-- The distinct raw paths of samples, column by column, each with its count: what calling context trees are made of.
use Rattle.std.specs.Prelude.{ℕ, ◌+◌, ◌==◌, not, List, [], ◌∷◌, length, map, filter, replicate, count_by, sum_by}
use Rattle.std.specs.List.{flat_map, enumerate_from, range_with_len}
use Rattle.scope_types.specs.declared.frame.Counted.{Counted}
use Rattle.scope_types.specs.declared.scope.Scope.{Scope}
use Rattle.scope_types.specs.Raw.{Raw, same_raw}

-- a sample: its column, and the raw path that it has there. Two samples have the same raw path where both column
-- and path are the same
pub record ColumnRaw : Type 0 where
  pub column : ℕ
  pub raw : Raw

-- the raw paths of a column's samples, in order
abbrev pub raws_of : List ColumnRaw → ℕ → List Raw
raws_of samples column = map (λ s. s.raw) (filter (λ s. s.column == column) samples)

-- each raw path once, in order of first sample, with the number of samples that have it
abbrev pub counted_paths : List Raw → List Counted
counted_paths [] = []
counted_paths (raw ∷ raws) =
    record { path = raw; count = 1 + count_by (same_raw raw) raws }
    ∷ filter (λ c. not (same_raw raw c.path)) (counted_paths raws)

-- for each column in turn the distinct raw paths of its samples, in order of first sample, each with its count
unfoldable pub distinct : ℕ → List ColumnRaw → List (List Counted)
distinct columns samples = map (λ column. counted_paths (raws_of samples column)) (range_with_len 0 columns)

-- how many frames distinct paths have together
abbrev pub frames_in : List (List Counted) → ℕ
frames_in tables = sum_by (sum_by (λ c. length c.path.frames)) tables

-- how many scopes the call path of a raw path has
abbrev pub path_scopes : (Raw → List Scope) → Counted → ℕ
path_scopes call_path counted = length (call_path counted.path)

-- and those of distinct raw paths together
abbrev pub scopes_in : (Raw → List Scope) → List (List Counted) → ℕ
scopes_in call_path tables = sum_by (sum_by (path_scopes call_path)) tables

-- how many samples are counted
abbrev pub samples_in : List (List Counted) → ℕ
samples_in tables = sum_by (sum_by (λ c. c.count)) tables

-- each raw path of a column as often as it is counted
abbrev pub each_of_column : ℕ × List Counted → List ColumnRaw
each_of_column numbered = flat_map (λ c. replicate c.count (record { column = numbered.0; raw = c.path })) numbered.1

-- and of all columns, which are numbered from 0: the samples, in another order
abbrev pub each_sample : List (List Counted) → List ColumnRaw
each_sample tables = flat_map each_of_column (enumerate_from 0 tables)
