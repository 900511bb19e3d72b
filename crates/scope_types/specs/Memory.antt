-- Bytes of memory that lie together, and the words in them (System V ABI, RISC-V supplement: the lowest byte first).
use Rattle.std.specs.Prelude.{◌≡◌, ℕ, ◌+◌, ◌-◌, ◌&&◌, List, length, take, drop, nat_le, Option, Some, None, IfSome}
use Rattle.std.specs.Prelude.{if◌then◌else◌}
use Rattle.prof_bytes.specs.Number.{number_in}

-- bytes at the addresses from `base` on
pub record BytesAt : Type 0 where
  pub base : ℕ
  pub bytes : List ℕ

-- the word at an address; nothing where not all four of its bytes are among these
abbrev pub word_in : BytesAt → ℕ → Option ℕ
word_in slice at =
    if nat_le slice.base at && nat_le (at + 4) (slice.base + length slice.bytes)
    then Some (number_in 4 (take 4 (drop (at - slice.base) slice.bytes))) else None

-- each word that has all four of its bytes among these is the one that memory has there
abbrev pub HasWords : (ℕ → Option ℕ) → BytesAt → Type 0
HasWords words slice = (at : ℕ) → IfSome (word_in slice at) (λ word. words at ≡ Some word)
