-- An offset in bytes, and what a read from there gives.
use Rattle.std.specs.Prelude.{ℕ, ◌+◌, List, length, take, drop, position, ◌==◌, Option, Some, None, if◌then◌else◌}
use Rattle.std.specs.Prelude.{nat_lt, option_map}

-- bytes, and the offset of the next one to be read
pub record At : Type 0 where
  pub whole : List ℕ
  pub offset : ℕ

-- the bytes from that offset on
abbrev pub left_of : At → List ℕ
left_of at = drop at.offset at.whole

-- a given number of bytes further on
abbrev pub moved : ℕ → At → At
moved count at = record { whole = at.whole; offset = at.offset + count }

-- the same, where the bytes end at an offset
abbrev pub up_to : ℕ → At → At
up_to end at = record { whole = take end at.whole; offset = at.offset }

-- the answer, and the offset after it: past what was taken, or as before where there is nothing
abbrev pub reading : {X : Type 0} → At → Option (X × ℕ) → Option X × At
reading at None = (None, at)
reading at (Some r) = (Some r.0, moved r.1 at)

-- a given number of bytes from the front
abbrev pub bytes_at : ℕ → List ℕ → Option (List ℕ × ℕ)
bytes_at count bytes = if nat_lt (length bytes) count then None else Some (take count bytes, count)

-- a text up to its 0 byte, which is taken too
abbrev pub text_at : List ℕ → Option (List ℕ × ℕ)
text_at bytes = option_map (λ end. (take end bytes, end + 1)) (position (λ byte. byte == 0) bytes)
