-- The words of a program's code whose unwind rules are made ready.
use Rattle.std.specs.Prelude.{ℕ, ◌+◌, ◌-◌, ◌/◌, ◌^◌, ◌&&◌, nat_lt, min, List, fold, if◌then◌else◌}
use Rattle.elf_image.specs.Image.{is_executable}
use Rattle.elf_image.specs.declared.part.Segment.{Segment}

-- an executable segment takes the place of addresses that are fewer
abbrev pub larger_code : ℕ × ℕ → Segment → ℕ × ℕ
larger_code code s =
    if is_executable s && nat_lt (code.1 - code.0) (s.end - s.start) then (s.start, s.end) else code

-- the addresses of the first of the largest executable segments, from the first up to the second
abbrev pub code_of : List Segment → ℕ × ℕ
code_of segments = fold larger_code (0, 0) segments

-- the numbers of the words of code, from the first up to the second, and no more than there may be unwind rules
abbrev pub words_in : ℕ × ℕ → ℕ × ℕ
words_in code = (code.0 / 4, min (code.1 / 4) (code.0 / 4 + 2 ^ 20))
