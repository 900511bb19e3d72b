-- Fields that are read one after another, each with the fault that it is where the bytes run out.
use Rattle.std.specs.Prelude.{ℕ, ◌+◌, ◌||◌, ℤ, List, length, Option, Some, None, Result, Ok, Err, if◌then◌else◌, nat_lt}
use Rattle.std.specs.Prelude.{nat_le}
use Rattle.prof_bytes.specs.Number.{number_at}
use Rattle.prof_bytes.specs.Leb.{uleb_at, sleb_at}
use Rattle.prof_bytes.specs.Reading.{At, left_of, moved, up_to, bytes_at, text_at}
use Rattle.prof_bytes.specs.Outcome.{◌>>=◌}

-- bytes from an offset on, and the fault that a field is which they do not hold whole
pub record Input (F : Type 0) : Type 0 where
  pub at : At
  pub missing : F

-- a value, and the input after it; the input's fault where there is none
abbrev pub taken : {X F : Type 0} → Input F → Option (X × ℕ) → Result (X × Input F) F
taken input None = Err input.missing
taken input (Some r) = Ok (r.0, record input { at = moved r.1 input.at })

-- a number of that many bytes
abbrev pub number_from : {F : Type 0} → ℕ → Input F → Result (ℕ × Input F) F
number_from count input = taken input (number_at count (left_of input.at))

-- an unsigned LEB128 number
abbrev pub uleb_from : {F : Type 0} → Input F → Result (ℕ × Input F) F
uleb_from input = taken input (uleb_at (left_of input.at))

-- a signed LEB128 number
abbrev pub sleb_from : {F : Type 0} → Input F → Result (ℤ × Input F) F
sleb_from input = taken input (sleb_at (left_of input.at))

-- a given number of bytes
abbrev pub bytes_from : {F : Type 0} → ℕ → Input F → Result (List ℕ × Input F) F
bytes_from count input = taken input (bytes_at count (left_of input.at))

-- a text, whose 0 byte is taken too
abbrev pub text_from : {F : Type 0} → Input F → Result (List ℕ × Input F) F
text_from input = taken input (text_at (left_of input.at))

-- ---- initial lengths (DWARF 5, section 7.4)

-- from here on a length is reserved: 0xffffffff begins one of 64-bit DWARF
abbrev pub first_reserved_length : ℕ
first_reserved_length = 0xfffffff0

-- a length that is not reserved and is that of bytes that follow
abbrev pub initial_length_from : {F : Type 0} → Input F → Result (ℕ × Input F) F
initial_length_from input = do
  (size, body) ← number_from 4 input
  if nat_le first_reserved_length size || nat_lt (length (left_of body.at)) size
      then Err input.missing else Ok (size, body)

-- the part that an initial length counts, and the input after it
abbrev pub part_from : {F : Type 0} → Input F → Result (Input F × Input F) F
part_from input = do
  (size, body) ← initial_length_from input
  Ok (record body { at = up_to (body.at.offset + size) body.at }, record body { at = moved size body.at })

-- ---- what a call gives

-- the answer, and the input after the value, or as before after a fault
abbrev pub answered : {X F : Type 0} → Input F → Result (X × Input F) F → Result X F × Input F
answered before (Ok found) = (Ok found.0, found.1)
answered before (Err fault) = (Err fault, before)
