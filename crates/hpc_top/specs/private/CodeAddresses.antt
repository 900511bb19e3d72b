-- The addresses of the words of a program's code.
use Rattle.std.specs.Prelude.{ℕ, ◌+◌, ◌*◌, ◌-◌, ◌/◌, ◌^◌, ◌++◌, min, List, [], map, fold, length, if◌then◌else◌}
use Rattle.std.specs.Int.{div_ceil}
use Rattle.std.specs.List.{range_with_len}
use Rattle.elf_image.specs.Image.{ProgramImage, is_executable}
use Rattle.elf_image.specs.declared.part.Segment.{Segment}

-- the numbers of the words of a segment that the file fills, from the first up to the second
abbrev pub filled_words : Segment → ℕ × ℕ
filled_words s = (div_ceil s.start 4, min (s.start + s.filled) (2 ^ 32 - 1) / 4)

-- the addresses of words come last, while there are at most so many in all
abbrev pub with_words : ℕ → List ℕ → ℕ × ℕ → List ℕ
with_words most addresses words =
    addresses
    ++ map (λ word. 4 * word) (range_with_len words.0 (min (words.1 - words.0) (most - length addresses)))

-- those of a segment's words, if it is executable
abbrev pub with_code : ℕ → List ℕ → Segment → List ℕ
with_code most addresses s = if is_executable s then with_words most addresses (filled_words s) else addresses

-- the addresses of the words of code that the file fills, and no more than the file has words
abbrev pub code_addresses : ProgramImage → List ℕ
code_addresses image = fold (with_code (length image.file / 4)) [] image.segments
