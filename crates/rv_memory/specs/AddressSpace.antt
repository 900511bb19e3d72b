-- Memory as a whole: a fixed list of regions with their rights, and one byte for each address
-- (RISC-V unprivileged manual, "Memory"; System V ABI, "Program Loading").
use Rattle.std.specs.Prelude.{◌≡◌, ℕ, ◌+◌, ◌-◌, ◌*◌, ◌%◌, ◌^◌, ◌==◌, ◌&&◌, ◌||◌, Bool, true, false, List, ◌++◌, map}
use Rattle.std.specs.Prelude.{length, slice_index, Option, Some, None, if◌then◌else◌, nat_lt, nat_le}
use Rattle.std.specs.List.{find, range_with_len, list_all}
use Rattle.prof_bytes.specs.Number.{number_in}
use Rattle.elf_image.specs.declared.part.Segment.{Segment}
use Rattle.elf_image.specs.declared.elf.TheConstants.{PF_X, PF_W, PF_R}
use Rattle.elf_image.specs.Image.{ProgramImage, in_segment, has_flag, stacks_begin}

-- how many addresses there are
unfoldable pub addresses : ℕ
addresses = 2 ^ 32

-- a byte for each address, from 0 on
unfoldable pub each_address : (ℕ → ℕ) → List ℕ
each_address byte = map byte (range_with_len 0 addresses)

-- regions that share no address, with their rights; and the byte at each address
pub record AddressSpace : Type 0 where
  pub regions : List Segment
  pub bytes : List ℕ

-- the byte at an address
abbrev pub byte_at : AddressSpace → ℕ → ℕ
byte_at memory at = slice_index memory.bytes at

-- a region has a right: PF_X, PF_W or PF_R (System V ABI, "Segment Permissions")
abbrev pub has : ℕ → Segment → Bool
has right region = has_flag right region.flags

-- the region that holds an address, if one does
abbrev pub region_at : List Segment → ℕ → Option Segment
region_at regions at = find (in_segment at) regions

-- it is the region of each address that it holds
abbrev pub IsRegionOf : List Segment → Segment → Type 0
IsRegionOf regions region = (at : ℕ) → in_segment at region ≡ true → region_at regions at ≡ Some region

-- a region that was found has a right
abbrev pub grants : ℕ → Option Segment → Bool
grants right None = false
grants right (Some region) = has right region

-- the address lies in a region with this right
abbrev pub may : ℕ → List Segment → ℕ → Bool
may right regions at = grants right (region_at regions at)

-- each of a given number of addresses, from this one on, lies in a region with this right. No address is 2^32
-- or above, since no region reaches so far
abbrev pub may_all : ℕ → AddressSpace → ℕ → ℕ → Bool
may_all right memory at count = list_all (may right memory.regions) (range_with_len at count)

-- the number in that many bytes from this address on, the lowest first
abbrev pub memory_number : AddressSpace → ℕ → ℕ → ℕ
memory_number memory at size = number_in size (map (byte_at memory) (range_with_len at size))

-- what a load gives: nothing where it traps
abbrev pub loaded : AddressSpace → ℕ → ℕ → Option ℕ
loaded memory at size = if may_all PF_R memory at size then Some (memory_number memory at size) else None

-- loads and stores are of 1, 2 or 4 bytes ("Load and Store Instructions")
abbrev pub is_size : ℕ → Bool
is_size size = (size == 1) || (size == 2) || (size == 4)

-- the byte at an address after these bytes were written from another address on
abbrev pub byte_after : AddressSpace → ℕ → List ℕ → ℕ → ℕ
byte_after memory start bytes at =
    if nat_le start at && nat_lt at (start + length bytes) then slice_index bytes (at - start) else byte_at memory at

-- the memory with these bytes from this address on, and all others as before
abbrev pub written : AddressSpace → ℕ → List ℕ → AddressSpace
written memory start bytes = record { regions = memory.regions; bytes = each_address (byte_after memory start bytes) }

-- what a store does, and whether: nothing, where one of the addresses can't be written
abbrev pub stored : AddressSpace → ℕ → List ℕ → Bool × AddressSpace
stored memory start bytes =
    if may_all PF_W memory start (length bytes) then (true, written memory start bytes) else (false, memory)

-- the address and the three after it lie in this region, which may be executed
abbrev pub is_fetched_from : ℕ → Option Segment → Bool
is_fetched_from pc None = false
is_fetched_from pc (Some region) = has PF_X region && nat_le (pc + 4) region.end

-- the word that is fetched at an address, where it may be: at a multiple of 4, from one region ("Base
-- Instruction-Length Encoding")
abbrev pub fetched_at : AddressSpace → ℕ → Option ℕ
fetched_at memory pc =
    if pc % 4 == 0 && is_fetched_from pc (region_at memory.regions pc) then Some (memory_number memory pc 4) else None

-- how many harts may have a stack
abbrev pub most_stacks : ℕ
most_stacks = 64

-- how many addresses a stack has, 512 KiB
abbrev pub stack_size : ℕ
stack_size = 0x80000

-- how far the ends of two harts' stacks are apart, 1 MiB
abbrev pub stack_stride : ℕ
stack_stride = 0x100000

-- the stack of a hart, to be read and written
abbrev pub stack_of : ℕ → Segment
stack_of hart =
    let end = stacks_begin + (hart + 1) * stack_stride in
    record { start = end - stack_size; end = end; flags = PF_R + PF_W; offset = 0; filled = 0 }

-- the program's segments and the stacks of a given number of harts
abbrev pub regions_of : ProgramImage → ℕ → List Segment
regions_of program harts = program.segments ++ map stack_of (range_with_len 0 harts)

-- the byte that the file has for an address of a region: 0 past the region's part of the file ("Program Loading")
abbrev pub byte_in : List ℕ → ℕ → Option Segment → ℕ
byte_in file at None = 0
byte_in file at (Some region) =
    if nat_lt (at - region.start) region.filled then slice_index file (region.offset + (at - region.start)) else 0

-- the byte that an address begins with: what the file fills its region with, and else 0
abbrev pub first_byte : List ℕ → List Segment → ℕ → ℕ
first_byte file regions at = byte_in file at (region_at regions at)

-- the memory of a program that was loaded, with stacks for a given number of harts
abbrev pub first_memory : ProgramImage → ℕ → AddressSpace
first_memory program harts =
    let regions = regions_of program harts in
    record { regions = regions; bytes = each_address (first_byte program.file regions) }
