-- LEB128, the numbers of variable length of DWARF 5, section 7.6.
use Rattle.std.specs.Prelude.{ℕ, ◌+◌, ◌*◌, ◌-◌, ◌%◌, ◌^◌, ℤ, pos, ◌-ℤ◌, Bool, List, [], ◌∷◌, length, take, position}
use Rattle.std.specs.Prelude.{Option, Some, None, option_map, option_and_then, if◌then◌else◌, nat_lt, nat_le, ◌&&◌}

-- the last byte of a number has its high bit clear
abbrev pub is_last : ℕ → Bool
is_last byte = nat_lt byte 128

-- the bytes of the number at the front, up to its last one
abbrev pub leb_group : List ℕ → Option (List ℕ)
leb_group bytes = option_map (λ index. take (index + 1) bytes) (position is_last bytes)

-- the number that they hold: seven bits a byte, the lowest first
abbrev pub seven_bits : List ℕ → ℕ
seven_bits [] = 0
seven_bits (byte ∷ bytes) = byte % 128 + 128 * seven_bits bytes

-- one more than the largest number that a given number of bytes hold
abbrev pub span : List ℕ → ℕ
span group = 128 ^ length group

-- a number of at most ten bytes and below 2^64
abbrev pub fits_unsigned : List ℕ → Bool
fits_unsigned group = nat_le (length group) 10 && nat_lt (seven_bits group) (2 ^ 64)

-- the unsigned number of a group, and how many bytes it has
abbrev pub unsigned_of : List ℕ → Option (ℕ × ℕ)
unsigned_of group = if fits_unsigned group then Some (seven_bits group, length group) else None

-- an unsigned number at the front, and how many bytes it has
abbrev pub uleb_at : List ℕ → Option (ℕ × ℕ)
uleb_at bytes = option_and_then unsigned_of (leb_group bytes)

-- two's complement: the upper half of the numbers of that many bytes stands for the negative ones
abbrev pub is_negative : List ℕ → Bool
is_negative group = nat_le (span group) (2 * seven_bits group)

-- the number that it stands for
abbrev pub signed_value : List ℕ → ℤ
signed_value group = if is_negative group then pos (seven_bits group) -ℤ pos (span group) else pos (seven_bits group)

-- a number of at most ten bytes, from -2^63 to 2^63 - 1
abbrev pub fits_signed : List ℕ → Bool
fits_signed group =
    nat_le (length group) 10
    && (if is_negative group then nat_le (span group - seven_bits group) (2 ^ 63)
    else nat_lt (seven_bits group) (2 ^ 63))

-- the signed number of a group, and how many bytes it has
abbrev pub signed_of : List ℕ → Option (ℤ × ℕ)
signed_of group = if fits_signed group then Some (signed_value group, length group) else None

-- a signed number at the front, and how many bytes it has
abbrev pub sleb_at : List ℕ → Option (ℤ × ℕ)
sleb_at bytes = option_and_then signed_of (leb_group bytes)
