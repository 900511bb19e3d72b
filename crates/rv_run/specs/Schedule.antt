-- The text of a schedule: how many harts there are, and which of them runs for how many instructions,
-- slice by slice.
use Rattle.std.specs.Prelude.{ℕ, ◌+◌, ◌-◌, ◌<◌, ◌≤◌, ◌==◌, Bool, true, not, List, [], ◌∷◌, ◌++◌, map, filter, length}
use Rattle.std.specs.Prelude.{take, drop, position, sum, Option, Some, None, Result, Ok, Err, if◌then◌else◌, nat_eq}
use Rattle.std.specs.Prelude.{All, codes}
use Rattle.std.specs.List.{starts_with}
use Rattle.prof_bytes.specs.Outcome.{◌>>=◌}
use Rattle.rv_run.specs.declared.schedule.Slice.{Slice}
use Rattle.rv_run.specs.declared.schedule.ScheduleFault.{ScheduleFault}
use Rattle.prof_bytes.specs.Numerals.{decimal_in}
use Rattle.scope_types.specs.Limits.{most_harts}

-- the number of harts, and the slices in order
pub record Scheduled : Type 0 where
  pub harts : ℕ
  pub slices : List Slice

-- how many instructions all slices together may retire
abbrev pub most_instructions : ℕ
most_instructions = 4294967295

-- lines with one byte more at the front of the first
abbrev pub with_first_byte : ℕ → List (List ℕ) → List (List ℕ)
with_first_byte byte [] = (byte ∷ []) ∷ []
with_first_byte byte (line ∷ rest) = (byte ∷ line) ∷ rest

-- the bytes cut at line feeds; a last empty piece is no line
unfoldable pub lines : List ℕ → List (List ℕ)
lines [] = []
lines (byte ∷ rest) = if byte == 10 then [] ∷ lines rest else with_first_byte byte (lines rest)

-- a line and its number
pub record NumberedLine : Type 0 where
  pub number : ℕ
  pub bytes : List ℕ

-- lines with their numbers, from this one on
unfoldable pub numbered_lines : ℕ → List (List ℕ) → List NumberedLine
numbered_lines first [] = []
numbered_lines first (line ∷ rest) = record { number = first; bytes = line } ∷ numbered_lines (first + 1) rest

-- empty lines and those that begin with `#` are ignored
abbrev pub is_ignored : List ℕ → Bool
is_ignored [] = true
is_ignored (byte ∷ rest) = byte == 35

-- the line counts
abbrev pub is_entry : NumberedLine → Bool
is_entry line = not (is_ignored line.bytes)

-- the lines that count
abbrev pub entries : List NumberedLine → List NumberedLine
entries all = filter is_entry all

-- how the first of them begins
abbrev pub harts_word : List ℕ
harts_word = codes "harts "

-- the line `harts N`
abbrev pub harts_in : List ℕ → Option ℕ
harts_in line = if starts_with nat_eq line harts_word then decimal_in 1 most_harts (drop 6 line) else None

-- a slice of these numbers, if both are there
abbrev pub slice_by : Option ℕ → Option ℕ → Option Slice
slice_by (Some hart) (Some count) = Some (record { hart = hart; count = count })
slice_by _ _ = None

-- the slice of a line that is cut at its first space, if it has one
abbrev pub slice_cut : ℕ → ℕ → List ℕ → Option ℕ → Option Slice
slice_cut harts used line None = None
slice_cut harts used line (Some space) =
    slice_by (decimal_in 0 (harts - 1) (take space line))
    (decimal_in 1 (most_instructions - used) (drop (space + 1) line))

-- the line `H C`, with one space, where the slices before it have a given number of instructions: C is at most
-- what they leave of the most that there may be
abbrev pub slice_in : ℕ → ℕ → List ℕ → Option Slice
slice_in harts used line = slice_cut harts used line (position (λ byte. byte == 32) line)

-- the value that a line has, or the fault that it is
abbrev pub on_line : {X : Type 0} → ℕ → Option X → Result X ScheduleFault
on_line line None = Err (record { line = line })
on_line line (Some x) = Ok x

-- slices before others, if these are there
abbrev pub slices_before : List Slice → Result (List Slice) ScheduleFault → Result (List Slice) ScheduleFault
slices_before slices rest = do
  more ← rest
  Ok (slices ++ more)

-- every line is a slice
unfoldable pub slices_of : ℕ → ℕ → List NumberedLine → Result (List Slice) ScheduleFault
slices_of harts used [] = Ok []
slices_of harts used (line ∷ rest) = do
  slice ← on_line line.number (slice_in harts used line.bytes)
  slices_before (slice ∷ []) (slices_of harts (used + slice.count) rest)

-- the first line is that of the harts. Where there is none, the fault is at the end of all lines
abbrev pub schedule_in : ℕ → List NumberedLine → Result Scheduled ScheduleFault
schedule_in end [] = Err (record { line = end })
schedule_in end (first ∷ rest) = do
  harts ← on_line first.number (harts_in first.bytes)
  slices ← slices_of harts 0 rest
  Ok (record { harts = harts; slices = slices })

-- the schedule that the bytes tell, or its first bad line; lines count from 1
abbrev pub schedule_of : List ℕ → Result Scheduled ScheduleFault
schedule_of bytes = schedule_in (length (lines bytes) + 1) (entries (numbered_lines 1 (lines bytes)))

-- how many instructions a slice has
abbrev pub slice_count : Slice → ℕ
slice_count slice = slice.count

-- how many instructions the slices have
abbrev pub instructions : List Slice → ℕ
instructions slices = sum (map slice_count slices)

-- a slice of one of a given number of harts, which is not empty
pub record IsSlice (harts : ℕ) (slice : Slice) : Type 0 where
  pub hart : slice.hart < harts
  pub count : 0 < slice.count

-- what is so of every schedule that is read
pub record IsSchedule (s : Scheduled) : Type 0 where
  pub some : 0 < s.harts
  pub few : s.harts ≤ most_harts
  pub slices : All (IsSlice s.harts) s.slices
  pub instructions : instructions s.slices ≤ most_instructions
