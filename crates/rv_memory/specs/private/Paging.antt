-- How memory is kept: what was written in pages of 4 KiB, these in blocks of 1 MiB; and what was never
-- written as the file has it.
use Rattle.std.specs.Prelude.{◌≡◌, ℕ, ◌+◌, ◌-◌, ◌/◌, ◌%◌, ◌^◌, ◌≤◌, ◌&&◌, Bool, true, false, List, length}
use Rattle.std.specs.Prelude.{slice_index}
use Rattle.std.specs.Prelude.{Some, None, if◌then◌else◌, nat_le, nat_lt}
use Rattle.std.specs.List.{slice_index_or}
use Rattle.elf_image.specs.declared.part.Segment.{Segment}
use Rattle.rv_memory.specs.declared.paged_memory.PagedMemory.{PagedMemory}
use Rattle.rv_memory.specs.declared.region.Right.{Right}
use Rattle.rv_memory.specs.declared.region.Right.TheVariants.{Execute, Write, Read}
use Rattle.rv_memory.specs.private.Pages.{Paged, paged_in}
use Rattle.elf_image.specs.declared.elf.TheConstants.{PF_R, PF_W, PF_X}
use Rattle.rv_memory.specs.AddressSpace.{AddressSpace, first_byte, region_at, each_address, may, IsRegionOf}

-- a page by its number
abbrev pub page_numbered : PagedMemory → ℕ → Paged
page_numbered paged number = paged_in paged.pages number

-- the page of an address
abbrev pub page_of : PagedMemory → ℕ → Paged
page_of paged at = page_numbered paged (at / 2 ^ 12)

-- the byte at an address: what its page holds, and else what it began with
abbrev pub paged_byte : PagedMemory → ℕ → ℕ
paged_byte paged at = slice_index_or (page_of paged at).bytes (at % 2 ^ 12) (first_byte paged.file.now paged.regions at)

-- the same after these bytes were put in from another address on
abbrev pub value_after : PagedMemory → ℕ → List ℕ → ℕ → ℕ
value_after paged start bytes at =
    if nat_le start at && nat_lt at (start + length bytes) then slice_index bytes (at - start) else paged_byte paged at

-- it as whole memory
abbrev pub memory_of : PagedMemory → AddressSpace
memory_of paged = record { regions = paged.regions; bytes = each_address (paged_byte paged) }

-- an address that has a region shares it with all others that the region holds
abbrev pub AreApart : List Segment → Type 0
AreApart regions = (at : ℕ) (region : Segment) → region_at regions at ≡ Some region → IsRegionOf regions region

-- what keeps a memory: regions that are apart and below 2^32, pages of 4 KiB at most that each know one region of
-- theirs, and bytes as they began where nothing can be written
pub record IsPaged (paged : PagedMemory) : Type 0 where
  pub apart : AreApart paged.regions
  pub page_regions : (number : ℕ) → IsRegionOf paged.regions (page_numbered paged number).region
  pub short : (number : ℕ) → length (page_numbered paged number).bytes ≤ 2 ^ 12
  pub low : (at : ℕ) → 2 ^ 32 ≤ at → region_at paged.regions at ≡ None
  pub intact : (at : ℕ) → may PF_W paged.regions at ≡ false
      → paged_byte paged at ≡ first_byte paged.file.now paged.regions at

-- a memory, and a region of it
pub record IsMemory (memory : PagedMemory) (region : Segment) : Type 0 where
  pub paged : IsPaged memory
  pub own : IsRegionOf memory.regions region

-- the segment holds a given number of addresses from this one on
abbrev pub covers_all : Segment → ℕ → ℕ → Bool
covers_all segment at count = nat_le segment.start at && nat_le (at + count) segment.end

-- the right as a bit of a region's flags
abbrev pub bit_of : Right → ℕ
bit_of Execute = PF_X
bit_of Write = PF_W
bit_of Read = PF_R
