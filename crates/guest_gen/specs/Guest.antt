-- The guest of a number: a program, its input, a schedule of four harts, and a period.
use Rattle.std.specs.Prelude.{ℕ, ◌+◌, ◌*◌, ◌%◌, List, [], ◌++◌, codes, decimal}
use Rattle.std.specs.List.{flat_map, range_with_len}
use Rattle.guest_gen.specs.declared.generate.GuestFiles.{GuestFiles}
use Rattle.guest_gen.specs.Draws.{draw, draw_state}
use Rattle.guest_gen.specs.Code.{code, function_count}
use Rattle.guest_gen.specs.File.{guest_file}

-- ---- the schedule: which hart runs, and for how many instructions

-- a slice, by two draws
abbrev pub drawn_line : ℕ → List ℕ
drawn_line s = decimal (draw s 0 % 4) ++ codes " " ++ decimal (1 + draw s 1 % 997) ++ codes "\n"

-- a slice, which draws after those before it
unfoldable pub slice_line : ℕ → ℕ → List ℕ
slice_line s j = drawn_line (draw_state (2 * j) s)

-- a given number of slices
unfoldable pub slice_lines : ℕ → ℕ → List ℕ
slice_lines s count = flat_map (slice_line s) (range_with_len 0 count)

-- how many there are
abbrev pub slices : ℕ
slices = 4000

-- ---- the guest. The functions draw first, three times each

-- four harts, and the slices, which draw after the functions: three times for each of these
abbrev pub guest_schedule : ℕ → List ℕ
guest_schedule number = codes "harts 4\n" ++ slice_lines (draw_state (3 * function_count) number) slices

-- the guest of a number; it reads no input, and its period is 97
abbrev pub guest_of : ℕ → GuestFiles
guest_of number = record {
  elf = guest_file (code number);
  input = [];
  schedule = guest_schedule number;
  period = 97;
}
