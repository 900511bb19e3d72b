-- What is still to be read of a text, line by line.
use Rattle.std.specs.Prelude.{ℕ, ◌+◌, List, [], ◌∷◌, length, Option, Some, None, option_map}
use Rattle.rv_run.specs.declared.lines.Line.{Line}
use Rattle.rv_run.specs.Schedule.{NumberedLine, numbered_lines}

-- how many lines were read, and the lines that were not
pub record Unread : Type 0 where
  pub done : ℕ
  pub rest : List (List ℕ)

-- the lines that were not read, with their numbers
abbrev pub to_read : Unread → List NumberedLine
to_read unread = numbered_lines (unread.done + 1) unread.rest

-- how many lines there are
abbrev pub all_lines : Unread → ℕ
all_lines unread = unread.done + length unread.rest

-- the first element, if there is one
abbrev pub first_or_none : {X : Type 0} → List X → Option X
first_or_none [] = None
first_or_none (x ∷ rest) = Some x

-- the elements after the first
abbrev pub rest_of : {X : Type 0} → List X → List X
rest_of [] = []
rest_of (x ∷ rest) = rest

-- a line as the code has it
abbrev pub numbered_line : Line → NumberedLine
numbered_line line = record { number = line.number; bytes = line.bytes.now }

-- and a line that there may be
abbrev pub line_told : Option Line → Option NumberedLine
line_told line = option_map numbered_line line
