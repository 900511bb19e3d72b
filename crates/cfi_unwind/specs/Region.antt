-- Where a program's first procedure lies. No frame of it has a caller.
use Rattle.std.specs.Prelude.{ℕ, ◌+◌, ◌++◌, ◌&&◌, Bool, nat_le, nat_lt, min, List, map, find, Option, Some, None}
use Rattle.std.specs.Prelude.{if◌then◌else◌}
use Rattle.elf_image.specs.declared.part.Segment.{Segment}
use Rattle.elf_image.specs.Image.{FunctionSymbol, ProgramImage, in_function, in_segment, is_executable}
use Rattle.cfi_table.specs.Frames.{FrameDescription, starts_of, least_above}

-- where frame descriptions and function symbols begin
abbrev pub starts : List FrameDescription → ProgramImage → List ℕ
starts descriptions image = starts_of descriptions ++ map (λ f. f.start) image.functions

-- the lesser of a number and another, if there is one
abbrev pub at_most : ℕ → Option ℕ → ℕ
at_most most None = most
at_most most (Some number) = min most number

-- from the entry to the least of these: the end of its executable segment, and each start above the entry; empty where
-- it is in no such segment
abbrev pub region_in : List FrameDescription → ProgramImage → Option Segment → ℕ × ℕ
region_in descriptions image None = (image.entry, image.entry)
region_in descriptions image (Some segment) =
    if is_executable segment then (image.entry, at_most segment.end (least_above image.entry (starts descriptions image)))
    else (image.entry, image.entry)

-- the extent of the function symbol that holds the entry, if there is one
abbrev pub region_by : List FrameDescription → ProgramImage → Option FunctionSymbol → ℕ × ℕ
region_by descriptions image (Some function) = (function.start, function.start + function.size)
region_by descriptions image None = region_in descriptions image (find (in_segment image.entry) image.segments)

-- the entry region, from its first address up to its end: by the first function symbol that holds the entry
unfoldable pub entry_region : List FrameDescription → ProgramImage → ℕ × ℕ
entry_region descriptions image = region_by descriptions image (find (in_function image.entry) image.functions)

-- an address lies in a region
abbrev pub is_in : ℕ × ℕ → ℕ → Bool
is_in region address = nat_le region.0 address && nat_lt address region.1
