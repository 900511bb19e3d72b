-- Names and addresses as reports print them.
use Rattle.std.specs.Prelude.{ℕ, ◌+◌, ◌/◌, ◌%◌, ◌^◌, ◌==◌, ◌||◌, nat_lt, List, [], ◌∷◌, ◌++◌, map, codes, decimal}
use Rattle.std.specs.Prelude.{if◌then◌else◌}

-- a name as it is printed: bytes below 32 and 127 as a question mark
abbrev pub printed : List ℕ → List ℕ
printed name = map (λ b. if nat_lt b 32 || b == 127 then 63 else b) name

-- a place in a source text: the file's name as it is printed, and the line
abbrev pub place_text : List ℕ → ℕ → List ℕ
place_text file line = printed file ++ codes ":" ++ decimal line

-- a digit of base 16, in small letters
abbrev pub hex_digit : ℕ → ℕ
hex_digit d = if nat_lt d 10 then 48 + d else 87 + d

-- the hexadecimal digits at these positions, of which 0 is the last
abbrev pub address_digits : ℕ → List ℕ → List ℕ
address_digits address positions = map (λ k. hex_digit (address / 16 ^ k % 16)) positions

-- an address: eight hexadecimal digits after 0x
abbrev pub address_text : ℕ → List ℕ
address_text address = codes "0x" ++ address_digits address (7 ∷ 6 ∷ 5 ∷ 4 ∷ 3 ∷ 2 ∷ 1 ∷ 0 ∷ [])
