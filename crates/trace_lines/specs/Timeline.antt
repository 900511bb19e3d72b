-- The timeline of a trace: for each hart in turn the procedures at a depth of its call paths, over the retired
-- instructions (HPCToolkit's manual, "Using HPCToolkit's Trace Viewer": the call path at the chosen depth, by the
-- sample before each moment).
use Rattle.std.specs.Prelude.{ℕ, ◌+◌, ◌-◌, ◌*◌, ◌/◌, ◌==◌, nat_lt, max, Bool, List, [], ◌∷◌, ◌++◌, length, map}
use Rattle.std.specs.Prelude.{take, fold, codes, decimal, if◌then◌else◌}
use Rattle.std.specs.List.{flat_map, enumerate_from, position_or_len, range_with_len}
use Rattle.std.specs.Ordering.{is_eq}
use Rattle.prof_bytes.specs.Printing.{printed}
use Rattle.scope_types.specs.declared.scope.ProcId.{ProcId}
use Rattle.scope_types.specs.declared.scope.ProcId.TheVariants.{Nameless}
use Rattle.scope_types.specs.declared.scope.Scope.{Scope}
use Rattle.scope_types.specs.declared.scope.Scope.TheVariants.{Proc}
use Rattle.scope_types.specs.Raw.{Raw}
use Rattle.tree_types.specs.Ascending.{ascending}
use Rattle.tree_types.specs.Naming.{proc_order}
use Rattle.trace_lines.specs.declared.cell.Cell.{Cell}
use Rattle.trace_lines.specs.declared.cell.Cell.TheVariants.{Past, Early, Shown}
use Rattle.trace_lines.specs.Reading.{path_at}
use Rattle.trace_lines.specs.Traces.{HartTrace, Traced}

-- ---- moments

-- the greatest number of instructions that a hart retired
abbrev pub span_of : List HartTrace → ℕ
span_of harts = fold max 0 (map (λ h. h.retired) harts)

-- the moment of a cell, by its number from 0, where so many cells have this span
abbrev pub moment_of : ℕ → ℕ → ℕ → ℕ
moment_of span cells cell = (cell + 1) * span / cells

-- ---- cells

-- the procedure that a scope begins, where it begins one
abbrev pub frame_procs : Scope → List ProcId
frame_procs (Proc id) = id ∷ []
frame_procs s = []

-- the procedures of a call path, the outermost first
abbrev pub procs_in : List Scope → List ProcId
procs_in scopes = flat_map frame_procs scopes

-- the last procedure, or this one where there is none
abbrev pub last_or : ProcId → List ProcId → ProcId
last_or id [] = id
last_or id (p ∷ ps) = last_or p ps

-- the procedure at a depth from 1, or the last where there are fewer
abbrev pub proc_at_depth : ℕ → List Scope → ProcId
proc_at_depth depth scopes = last_or Nameless (take depth (procs_in scopes))

-- what is shown of a hart at a moment: that it had ended; that it had no sample yet; or the procedure of its last
-- sample, samples counted from 1
abbrev pub cell_at : (Raw → ProcId) → ℕ → HartTrace → ℕ → Cell
cell_at proc_of period h moment =
    if nat_lt h.retired moment then Past
    else if moment / period == 0 then Early
    else Shown (proc_of (path_at h.samples (moment / period - 1)))

-- how a timeline looks at a trace: the procedure that is shown of each raw path, the period, the span, and the cells
pub record Scale : Type 0 where
  pub proc_of : Raw → ProcId
  pub period : ℕ
  pub span : ℕ
  pub cells : ℕ

-- the cells of a hart, in order of time
unfoldable pub cells_of : Scale → HartTrace → List Cell
cells_of s h = map (λ cell. cell_at s.proc_of s.period h (moment_of s.span s.cells cell)) (range_with_len 0 s.cells)

-- ---- the key

-- the procedure of a cell, where it shows one
abbrev pub cell_procs : Cell → List ProcId
cell_procs (Shown id) = id ∷ []
cell_procs cell = []

-- the procedures that are shown in any row, in order, each once
abbrev pub procs_shown : List (List Cell) → List ProcId
procs_shown rows = ascending proc_order (flat_map (flat_map cell_procs) rows)

-- A to Z, a to z, 0 to 9, and a plus sign for all further ones
abbrev pub letter : ℕ → ℕ
letter n = if nat_lt n 26 then 65 + n else if nat_lt n 52 then 71 + n else if nat_lt n 62 then n - 4 else 43

-- two procedures that tie in the order, and so are one
abbrev pub same_proc : ProcId → ProcId → Bool
same_proc p q = is_eq (proc_order p q)

-- the number of a procedure among those that are shown, from 0: how many come before it
abbrev pub number_among : List ProcId → ProcId → ℕ
number_among procs id = position_or_len (same_proc id) procs

-- ---- the text

-- a cell's byte: a minus sign after the hart's end, a dot before its first sample, and the letter of its procedure
abbrev pub cell_byte : List ProcId → Cell → ℕ
cell_byte procs Past = 45
cell_byte procs Early = 46
cell_byte procs (Shown id) = letter (number_among procs id)

-- a hart's line; the hart is given by its number
abbrev pub row_line : List ProcId → ℕ × List Cell → List ℕ
row_line procs row = codes "hart " ++ decimal row.0 ++ codes " " ++ map (cell_byte procs) row.1 ++ codes "\n"

-- a procedure's line; it is given by its number
abbrev pub key_line : (ProcId → List ℕ) → ℕ × ProcId → List ℕ
key_line proc_name key = letter key.0 ∷ codes " " ++ printed (proc_name key.1) ++ codes "\n"

-- the first line
abbrev pub timeline_head : ℕ → ℕ → ℕ → ℕ → ℕ → List ℕ
timeline_head harts period depth cells span = codes "timeline harts " ++ decimal harts ++ codes " period "
    ++ decimal period ++ codes " depth " ++ decimal depth ++ codes " cells " ++ decimal cells ++ codes " span "
    ++ decimal span ++ codes "\n"

-- the lines of rows and of the procedures that they show
abbrev pub timeline_lines : (ProcId → List ℕ) → List (List Cell) → List ℕ
timeline_lines proc_name rows = flat_map (row_line (procs_shown rows)) (enumerate_from 0 rows)
    ++ flat_map (key_line proc_name) (enumerate_from 0 (procs_shown rows))

-- how a timeline of these cells looks at a trace, at a depth
abbrev pub scale_of : (Raw → List Scope) → Traced → ℕ → ℕ → Scale
scale_of call_path t depth cells = record {
  proc_of = λ raw. proc_at_depth depth (call_path raw);
  period = t.period;
  span = span_of t.harts;
  cells = cells;
}

-- the rows of a trace
abbrev pub timeline_rows : Scale → List HartTrace → List (List Cell)
timeline_rows s harts = map (cells_of s) harts

-- the timeline of a trace
unfoldable pub timeline_text : (Raw → List Scope) → (ProcId → List ℕ) → Traced → ℕ → ℕ → List ℕ
timeline_text call_path proc_name t depth cells =
    timeline_head (length t.harts) t.period depth cells (span_of t.harts)
    ++ timeline_lines proc_name (timeline_rows (scale_of call_path t depth cells) t.harts)
