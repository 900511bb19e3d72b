-- What the readers find in the files of a guest.
use Rattle.std.specs.Prelude.{ℕ, ◌+◌, ◌*◌, ◌%◌, List, [], ◌∷◌, map, codes}
use Rattle.std.specs.List.{range_with_len}
use Rattle.elf_image.specs.declared.elf.TheConstants.{PF_R, PF_X}
use Rattle.elf_image.specs.declared.part.Segment.{Segment}
use Rattle.elf_image.specs.Image.{NamedSection, ProgramImage}
use Rattle.elf_image.specs.Reading.{image_of_file}
use Rattle.rv_run.specs.declared.schedule.Slice.{Slice}
use Rattle.rv_run.specs.Schedule.{Scheduled}
use Rattle.guest_gen.specs.Draws.{draw, draw_state}
use Rattle.guest_gen.specs.Code.{entry, function_count, function_size}
use Rattle.guest_gen.specs.File.{code_at, shstrtab, strtab, symtab}
use Rattle.guest_gen.specs.Frames.{debug_frame}
use Rattle.guest_gen.specs.Guest.{guest_of, slices}

-- ---- the schedule

-- a slice, by two draws
abbrev pub drawn_slice : ℕ → Slice
drawn_slice s = record { hart = draw s 0 % 4; count = 1 + draw s 1 % 997 }

-- a slice, which draws after those before it
unfoldable pub slice_at : ℕ → ℕ → Slice
slice_at s j = drawn_slice (draw_state (2 * j) s)

-- a given number of slices
unfoldable pub drawn_slices : ℕ → ℕ → List Slice
drawn_slices s count = map (slice_at s) (range_with_len 0 count)

-- the schedule of a number's guest: four harts, and the slices, which draw after the functions
abbrev pub guest_scheduled : ℕ → Scheduled
guest_scheduled number =
    record { harts = 4; slices = drawn_slices (draw_state (3 * function_count) number) slices }

-- ---- the program

-- how many bytes the code has: four words, and the functions
abbrev pub code_size : ℕ
code_size = 16 + function_size * function_count

-- the segment of the code
abbrev pub code_segment : Segment
code_segment = record {
  start = entry;
  end = entry + code_size;
  flags = PF_R + PF_X;
  offset = code_at;
  filled = code_size;
}

-- a section without an address
abbrev pub unloaded : List ℕ → List ℕ → NamedSection
unloaded name bytes = record { name = name; address = 0; bytes = bytes }

-- the sections
abbrev pub guest_sections : List NamedSection
guest_sections =
    unloaded (codes ".debug_frame") debug_frame ∷ unloaded (codes ".symtab") symtab
    ∷ unloaded (codes ".strtab") strtab ∷ unloaded (codes ".shstrtab") shstrtab ∷ []

-- the image of a number's guest
abbrev pub guest_image : ℕ → ProgramImage
guest_image number = image_of_file (guest_of number).elf

-- ---- the run

-- how many samples a run of a guest has at most: 4,000 slices of at most 997 instructions have 3,988,000, and one in 97
-- is sampled
abbrev pub most_guest_samples : ℕ
most_guest_samples = 41113
