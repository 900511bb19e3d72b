-- What a keyed hasher computes.
use Rattle.std.specs.Prelude.{ℕ, zero, suc, ◌+◌, ◌-◌, ◌*◌, ◌/◌, ◌%◌, ◌^◌, List, length, if◌then◌else◌, nat_le, bit_xor}
use Rattle.core.specs.Hash.FoldHasher.{folded_multiply, read_short, read_u64}
use Rattle.hash_key.specs.declared.hasher.KeyedHasher.{KeyedHasher}

-- a hasher of a key's two numbers
abbrev pub with_key : ℕ → ℕ → KeyedHasher
with_key state factor = record { state = state; factor = factor }

-- the state after the eight bytes at each of two places
abbrev pub mix : ℕ → List ℕ → ℕ → ℕ → ℕ → ℕ
mix factor bytes state first second =
    folded_multiply (bit_xor (read_u64 bytes first) state) (bit_xor (read_u64 bytes second) factor)

-- the state after the first n blocks of 16 bytes
unfoldable pub mix_blocks : ℕ → List ℕ → ℕ → ℕ → ℕ
mix_blocks factor bytes state zero = state
mix_blocks factor bytes state (suc n) =
    mix factor bytes (mix_blocks factor bytes state n) (16 * n) (16 * n + 8)

-- the state after at most eight bytes
abbrev pub short_state : KeyedHasher → List ℕ → ℕ
short_state hasher bytes =
    folded_multiply (bit_xor hasher.state (read_short bytes)) (bit_xor hasher.factor (2 * length bytes))

-- the state after more
abbrev pub long_state : KeyedHasher → List ℕ → ℕ
long_state hasher bytes =
    mix hasher.factor bytes
    (mix_blocks hasher.factor bytes ((hasher.state + length bytes) % 2 ^ 64) ((length bytes - 1) / 16))
    (length bytes - 16) (length bytes - 8)

-- the hasher after these bytes
unfoldable pub write : KeyedHasher → List ℕ → KeyedHasher
write hasher bytes = record {
  state = if nat_le (length bytes) 8 then short_state hasher bytes else long_state hasher bytes;
  factor = hasher.factor;
}
