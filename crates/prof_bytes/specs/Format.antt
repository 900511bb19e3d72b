-- A file whose fields follow one another. What it lacks is at fault where it begins.
use Rattle.std.specs.Prelude.{ℕ, ◌||◌, not, nat_eq, nat_lt, List, length, take, Result, Ok, Err, if◌then◌else◌}
use Rattle.std.specs.Cmp.Lexicographic.{pointwise}
use Rattle.prof_bytes.specs.Number.{number_in}
use Rattle.prof_bytes.specs.Reading.{At, left_of, moved}

-- a number of that many bytes, and where the next field begins
abbrev pub number_or : {F : Type 0} → (At → F) → ℕ → At → Result (ℕ × At) F
number_or missing width at = if nat_lt (length (left_of at)) width then Err (missing at)
    else Ok (number_in width (left_of at), moved width at)

-- a given number of bytes as they are
abbrev pub bytes_or : {F : Type 0} → (At → F) → ℕ → At → Result (List ℕ × At) F
bytes_or missing count at = if nat_lt (length (left_of at)) count then Err (missing at)
    else Ok (take count (left_of at), moved count at)

-- the eight bytes that a file begins with, and after them its first field
abbrev pub magic_or : {F : Type 0} → F → List ℕ → List ℕ → Result At F
magic_or missing magic bytes = if nat_lt (length bytes) 8 || not (pointwise nat_eq (take 8 bytes) magic)
    then Err missing else Ok (record { whole = bytes; offset = 8 })

-- what was read, where nothing follows
abbrev pub ended_or : {X F : Type 0} → (At → F) → X → At → Result X F
ended_or more value end = if nat_lt 0 (length (left_of end)) then Err (more end) else Ok value
