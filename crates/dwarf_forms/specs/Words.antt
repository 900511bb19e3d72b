-- Numbers of 32 bits.
use Rattle.std.specs.Prelude.{ℕ, ◌-◌, ◌%◌, ◌^◌, ℤ, pos, negsuc}

-- the low 32 bits of a signed number: the number modulo 2^32
abbrev pub low_word_signed : ℤ → ℕ
low_word_signed (pos n) = n % 2 ^ 32
low_word_signed (negsuc n) = 2 ^ 32 - 1 - n % 2 ^ 32
