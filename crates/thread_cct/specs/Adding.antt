-- One sample more among counted raw paths.
use Rattle.std.specs.Prelude.{ℕ, ◌+◌, ◌&&◌, not, nat_lt, Bool, List, [], ◌∷◌, ◌++◌, length, slice_index_or, slice_set}
use Rattle.std.specs.Prelude.{sum_by}
use Rattle.std.specs.Prelude.{Result, Ok, Err, if◌then◌else◌}
use Rattle.std.specs.List.{list_any}
use Rattle.scope_types.specs.declared.frame.Counted.{Counted}
use Rattle.scope_types.specs.Raw.{Raw, same_raw}
use Rattle.scope_types.specs.Distinct.{ColumnRaw, frames_in}
use Rattle.scope_types.specs.Limits.{most_frames_in_all}
use Rattle.thread_cct.specs.declared.ccts.TooManyFrames.{TooManyFrames}

-- whether a raw path is there
abbrev pub has_path : Raw → List Counted → Bool
has_path raw counted = list_any (λ c. same_raw raw c.path) counted

-- a raw path counted once more: its count rises where it is there, and else it goes last
abbrev pub count_one : Raw → List Counted → List Counted
count_one raw [] = record { path = raw; count = 1 } ∷ []
count_one raw (c ∷ rest) = if same_raw raw c.path then record { path = c.path; count = c.count + 1 } ∷ rest
    else c ∷ count_one raw rest

-- the counted paths of a column
abbrev pub of_column : List (List Counted) → ℕ → List Counted
of_column tables column = slice_index_or tables column []

-- how many samples a column's counted paths count
abbrev pub samples_of_column : List (List Counted) → ℕ → ℕ
samples_of_column tables column = sum_by (λ c. c.count) (of_column tables column)

-- a sample counted
abbrev pub count_sample : List (List Counted) → ColumnRaw → List (List Counted)
count_sample tables s = slice_set tables s.column (count_one s.raw (of_column tables s.column))

-- whether the path is new to its column, and all distinct paths would have too many frames with it
abbrev pub is_too_much : List (List Counted) → ColumnRaw → Bool
is_too_much tables s = not (has_path s.raw (of_column tables s.column))
    && nat_lt most_frames_in_all (frames_in tables + length s.raw.frames)

-- the refusal of one frame too many
abbrev pub too_many : TooManyFrames
too_many = record {}

-- a sample counted, unless there would be too many frames
abbrev pub with_sample : List (List Counted) → ColumnRaw → Result (List (List Counted)) TooManyFrames
with_sample tables s = if is_too_much tables s then Err too_many else Ok (count_sample tables s)

-- counted paths, unless they have too many frames
abbrev pub few_frames : List (List Counted) → Result (List (List Counted)) TooManyFrames
few_frames tables = if nat_lt most_frames_in_all (frames_in tables) then Err too_many else Ok tables

-- a counted path put last in its column's
abbrev pub with_path : List (List Counted) → ℕ → Counted → List (List Counted)
with_path tables column counted = slice_set tables column (of_column tables column ++ counted ∷ [])

-- a sample of a column that lies behind as many others
abbrev pub behind_columns : ℕ → ColumnRaw → ColumnRaw
behind_columns before s = record { column = before + s.column; raw = s.raw }
