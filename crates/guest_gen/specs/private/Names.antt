-- The functions' names and symbols, as a loop writes them.
use Rattle.std.specs.Prelude.{ℕ, ◌+◌, ◌-◌, ◌*◌, nat_lt, List, if◌then◌else◌}
use Rattle.std.specs.List.{flat_map, range_with_len}
use Rattle.guest_gen.specs.Code.{function_size, function_start}
use Rattle.guest_gen.specs.File.{function_name, name_bytes, symbol_bytes}

-- where a name with one digit begins, and one with two
abbrev pub short_offset : ℕ → ℕ
short_offset i = if nat_lt i 10 then 8 + 3 * i else 4 * i - 2

-- the symbol of a function, by where its name begins
abbrev pub short_symbol : ℕ → List ℕ
short_symbol i = symbol_bytes (short_offset i) (function_start i) function_size

-- the symbols of a given number of functions
unfoldable pub function_symbols : ℕ → List ℕ
function_symbols count = flat_map short_symbol (range_with_len 0 count)

-- the names of a given number of functions, each with its 0 byte
unfoldable pub function_names : ℕ → List ℕ
function_names count = flat_map (λ i. name_bytes (function_name i)) (range_with_len 0 count)
