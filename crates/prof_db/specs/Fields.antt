-- The fields of a database in this project's format (docs/FORMATS.md, Database), read one after another up to the first
-- that is not whole.
use Rattle.std.specs.Prelude.{ℕ, List, Result}
use Rattle.prof_bytes.specs.Format.{bytes_or, number_or}
use Rattle.prof_bytes.specs.Reading.{At}
use Rattle.prof_db.specs.declared.fault.DbFault.{DbFault}

-- a value, and where the next field begins; or the first fault
abbrev pub DbRead : Type 0 → Type 0
DbRead X = Result (X × At) DbFault

-- the fault of a rule at an offset
abbrev pub fault : ℕ → ℕ → DbFault
fault rule offset = record { offset = offset; rule = rule }

-- what is not whole, or is no part of the format, is at fault at its start
abbrev pub not_whole : At → DbFault
not_whole at = fault 2 at.offset

-- a number of `width` bytes
abbrev pub number_field : ℕ → At → DbRead ℕ
number_field width at = number_or not_whole width at

-- a word, or a file that is not whole
abbrev pub word_field : At → DbRead ℕ
word_field at = number_field 4 at

-- `count` bytes as they are
abbrev pub bytes_field : ℕ → At → DbRead (List ℕ)
bytes_field count at = bytes_or not_whole count at
