-- Fields of a file by their offsets. Numbers have their lowest byte first (System V ABI, chapter 4).
use Rattle.std.specs.Prelude.{ℕ, ◌+◌, ◌*◌, ◌==◌, Bool, List, length, take, drop, map, position, slice_index, Option}
use Rattle.std.specs.Prelude.{option_map, if◌then◌else◌, nat_le, nat_eq, ◌||◌}
use Rattle.std.specs.List.{range_with_len}
use Rattle.std.specs.Cmp.Lexicographic.{pointwise}
use Rattle.prof_bytes.specs.Number.{number_in}

-- the number of that many bytes at an offset, and 0 where the file does not have them all
unfoldable pub number_of : ℕ → List ℕ → ℕ → ℕ
number_of count file offset = if nat_le (offset + count) (length file) then number_in count (drop offset file) else 0

-- the byte at an offset
abbrev pub file_byte : List ℕ → ℕ → ℕ
file_byte file offset = slice_index file offset

-- an Elf32_Half, which has two bytes
abbrev pub half_at : List ℕ → ℕ → ℕ
half_at file offset = number_of 2 file offset

-- an Elf32_Word, Elf32_Addr or Elf32_Off, which have four bytes
abbrev pub word_at : List ℕ → ℕ → ℕ
word_at file offset = number_of 4 file offset

-- a given number of bytes from an offset on are in the file; no bytes are in it anywhere
abbrev pub lies_within : List ℕ → ℕ → ℕ → Bool
lies_within file offset size = size == 0 || nat_le (offset + size) (length file)

-- a given number of entries of one size, one after the other from an offset on
abbrev pub table_entries : {X : Type 0} → (ℕ → X) → ℕ → ℕ → ℕ → List X
table_entries entry_at first size count = map (λ k. entry_at (first + size * k)) (range_with_len 0 count)

-- the byte that ends a string
abbrev pub is_zero : ℕ → Bool
is_zero byte = byte == 0

-- the string from an offset on up to its 0 byte (System V ABI, chapter 4, String Table); nothing where no 0 byte
-- follows
unfoldable pub string_in : List ℕ → ℕ → Option (List ℕ)
string_in bytes offset = option_map (λ end. take end (drop offset bytes)) (position is_zero (drop offset bytes))

-- two strings have the same bytes
abbrev pub same_bytes : List ℕ → List ℕ → Bool
same_bytes xs ys = pointwise nat_eq xs ys
