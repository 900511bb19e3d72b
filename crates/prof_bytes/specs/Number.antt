-- A number and its bytes, the lowest byte first: one definition for reads and for puts.
use Rattle.std.specs.Prelude.{ℕ, ◌+◌, ◌%◌, ◌^◌, ◌<◌, List, length, slice_index, Option, Some, None}
use Rattle.std.specs.Prelude.{if◌then◌else◌, nat_lt}
use Rattle.std.specs.List.{flat_map}
use Rattle.byteorder.specs.Endian.{little_bytes, little_number}

-- the lowest `count` bytes of the number
abbrev pub number_bytes : ℕ → ℕ → List ℕ
number_bytes count number = little_bytes count number

-- a number of four bytes
abbrev pub word : ℕ → List ℕ
word number = number_bytes 4 number

-- numbers of four bytes, one after another
abbrev pub words : List ℕ → List ℕ
words numbers = flat_map word numbers

-- the sum of two numbers of four bytes, modulo 2^32
abbrev pub word_sum : ℕ → ℕ → ℕ
word_sum a b = (a + b) % 2 ^ 32

-- the number in the first `count` bytes
abbrev pub number_in : ℕ → List ℕ → ℕ
number_in count bytes = little_number count bytes

-- what a read gives: a value, and how many bytes it took. Nothing, where the bytes run out
abbrev pub number_at : ℕ → List ℕ → Option (ℕ × ℕ)
number_at count bytes = if nat_lt (length bytes) count then None else Some (number_in count bytes, count)

-- each element is a byte
abbrev pub IsBytes : List ℕ → Type 0
IsBytes bytes = (i : ℕ) → slice_index bytes i < 256
