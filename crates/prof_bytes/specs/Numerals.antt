-- Numbers as they are written in words and schedules: decimal, without a sign and without leading zeros.
use Rattle.std.specs.Prelude.{ℕ, ◌+◌, ◌-◌, ◌*◌, List, [], ◌∷◌, length, Bool, false, Option, Some, None, fold}
use Rattle.std.specs.Prelude.{if◌then◌else◌, nat_lt, nat_le, ◌==◌, ◌&&◌, ◌||◌, not}
use Rattle.std.specs.List.{list_all}

-- a digit, `0` to `9`
abbrev pub is_digit : ℕ → Bool
is_digit byte = nat_le 48 byte && nat_lt byte 58

-- `0`, or digits of which the first is not 0
abbrev pub is_decimal : List ℕ → Bool
is_decimal [] = false
is_decimal (byte ∷ rest) = list_all is_digit (byte ∷ rest) && (not (byte == 48) || length rest == 0)

-- a value with one digit more
abbrev pub next_digit : ℕ → ℕ → ℕ
next_digit value byte = value * 10 + (byte - 48)

-- the value of digits, the first the highest
abbrev pub decimal_value : List ℕ → ℕ
decimal_value bytes = fold next_digit 0 bytes

-- a number from `low` to `high`
abbrev pub decimal_in : ℕ → ℕ → List ℕ → Option ℕ
decimal_in low high word =
    let value = decimal_value word in
    if is_decimal word && nat_le low value && nat_le value high then Some value else None
