-- Where strings end: the first 0 byte from each block of a string table on.
use Rattle.std.specs.Prelude.{◌≡◌, ℕ, ◌+◌, ◌-◌, ◌*◌, ◌/◌, ◌<◌, List, length, drop, slice_index}
use Rattle.std.specs.List.{position_or_len}
use Rattle.elf_image.specs.Fields.{is_zero}

-- the index of the first 0 byte from an index on, or the end where there is none
unfoldable pub first_zero : List ℕ → ℕ → ℕ
first_zero bytes start = start + position_or_len is_zero (drop start bytes)

-- the bytes of a block
abbrev pub block : ℕ
block = 64

-- the number of blocks of a string table, of which the last one may have fewer bytes or none
abbrev pub blocks : List ℕ → ℕ
blocks bytes = length bytes / block + 1

-- the first 0 byte from each block on, the last block first
pub record IsEnds (bytes ends : List ℕ) : Type 0 where
  pub count : length ends ≡ blocks bytes
  pub each : (j : ℕ) → j < length ends → slice_index ends j ≡ first_zero bytes (block * (blocks bytes - 1 - j))
