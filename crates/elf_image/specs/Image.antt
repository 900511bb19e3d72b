-- What a program's file gives to be run and measured.
use Rattle.std.specs.Prelude.{ℕ, ◌+◌, ◌-◌, ◌%◌, ◌/◌, ◌^◌, ◌<◌, ◌≤◌, ◌==◌, IsTrue, List, [], length, All, AllPairs, Bool}
use Rattle.std.specs.Prelude.{◌||◌, ◌&&◌, nat_le, nat_lt, find}
use Rattle.std.specs.List.{list_any}
use Rattle.std.specs.Option.{option_map_or}
use Rattle.elf_image.specs.Fields.{same_bytes}
use Rattle.address_ranges.specs.Ranges.{holds}
use Rattle.address_ranges.specs.declared.ranges.AddressRange.{AddressRange}
use Rattle.elf_image.specs.declared.elf.TheConstants.{PF_W, PF_X}
use Rattle.elf_image.specs.declared.part.Segment.{Segment}
use Rattle.elf_image.specs.declared.part.Function.{Function}
use Rattle.elf_image.specs.declared.part.Section.{Section}

-- a section's name, its address in memory, and its bytes
pub record NamedSection : Type 0 where
  pub name : List ℕ
  pub address : ℕ
  pub bytes : List ℕ

-- a function symbol: where the function begins, how many bytes it has, and its name
pub record FunctionSymbol : Type 0 where
  pub start : ℕ
  pub size : ℕ
  pub name : List ℕ

-- a program as it is loaded: the file's bytes, where it begins to run, its segments and sections in file order, and its
-- function symbols in symbol order
pub record ProgramImage : Type 0 where
  pub file : List ℕ
  pub entry : ℕ
  pub segments : List Segment
  pub sections : List NamedSection
  pub functions : List FunctionSymbol

-- a section as contracts see it
abbrev pub named : Section → NamedSection
named s = record { name = s.name.now; address = s.address; bytes = s.bytes.now }

-- a function symbol as contracts see it
abbrev pub symbol_view : Function → FunctionSymbol
symbol_view f = record { start = f.start; size = f.size; name = f.name.now }

-- a segment's addresses
abbrev pub segment_range : Segment → AddressRange
segment_range s = record { start = s.start; end = s.end }

-- a function symbol's addresses
abbrev pub function_range : FunctionSymbol → AddressRange
function_range f = record { start = f.start; end = f.start + f.size }

-- where the addresses for stacks begin
abbrev pub stacks_begin : ℕ
stacks_begin = 0xF0000000

-- a segment has an address
abbrev pub in_segment : ℕ → Segment → Bool
in_segment address s = holds address (segment_range s)

-- the range of a function symbol holds an address
abbrev pub in_function : ℕ → FunctionSymbol → Bool
in_function address f = holds address (function_range f)

-- a flag of one bit is set
abbrev pub has_flag : ℕ → ℕ → Bool
has_flag flag flags = flags / flag % 2 == 1

-- the flag PF_X (System V ABI, chapter 5, Segment Permissions)
abbrev pub is_executable : Segment → Bool
is_executable s = has_flag PF_X s.flags

-- the flag PF_W
abbrev pub is_writable : Segment → Bool
is_writable s = has_flag PF_W s.flags

-- a range counts where it is nonempty and lies in one executable segment
abbrev pub counts : List Segment → ℕ → ℕ → Bool
counts segments low high =
    nat_lt low high && list_any (λ s. is_executable s && nat_le s.start low && nat_le high s.end) segments

-- the bytes of the first section of that name
abbrev pub bytes_of_name : List NamedSection → List ℕ → List ℕ
bytes_of_name sections name = option_map_or (λ s. s.bytes) (find (λ s. same_bytes s.name name) sections) []

-- the address of the first section of that name, or 0
abbrev pub address_of_name : List NamedSection → List ℕ → ℕ
address_of_name sections name = option_map_or (λ s. s.address) (find (λ s. same_bytes s.name name) sections) 0

-- a segment is not empty and lies below the stacks, and the bytes that it takes from the file are there
pub record IsWithin (file : List ℕ) (s : Segment) : Type 0 where
  pub some : s.start < s.end
  pub low : s.end ≤ stacks_begin
  pub filled : s.filled ≤ s.end - s.start
  pub there : 0 < s.filled → s.offset + s.filled ≤ length file

-- two segments share no address
abbrev pub are_apart : Segment → Segment → Bool
are_apart s t = nat_le s.end t.start || nat_le t.end s.start

-- what is so of every program that is read. The file has 32 bytes for each segment's header
pub record IsLoaded (l : ProgramImage) : Type 0 where
  pub within : All (IsWithin l.file) l.segments
  pub apart : AllPairs (λ s t. IsTrue (are_apart s t)) l.segments
  pub few : length l.segments ≤ 2 ^ 21
  pub low : All (λ f. f.start + f.size < 2 ^ 32) l.functions
  pub size : length l.file ≤ 2 ^ 26
  pub parts : (name : List ℕ) → length (bytes_of_name l.sections name) ≤ length l.file
