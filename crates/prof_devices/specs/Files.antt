-- Files by name.
use Rattle.std.specs.Prelude.{◌≡◌, ◌≢◌, ℕ, ◌⊎◌, List, [], ◌∷◌, take, Option, Some, None, Bool, if◌then◌else◌, unwrap_or}
use Rattle.std.specs.Prelude.{nat_eq}
use Rattle.std.specs.Cmp.Lexicographic.{pointwise}

-- names and bytes
abbrev pub Files : Type 0
Files = List (List ℕ × List ℕ)

-- whether a file has the name
abbrev pub has_name : List ℕ → List ℕ × List ℕ → Bool
has_name name file = pointwise nat_eq file.0 name

-- the file of a name: the first that has it
abbrev pub file_of : Files → List ℕ → Option (List ℕ)
file_of [] name = None
file_of (f ∷ fs) name = if has_name name f then Some f.1 else file_of fs name

-- its bytes. A name that no file has is that of an empty file
abbrev pub file_bytes : Files → List ℕ → List ℕ
file_bytes fs name = unwrap_or (file_of fs name) []

-- the file is these bytes, and every other file is as before
pub record Holds (old new : Files) (name bytes : List ℕ) : Type 0 where
  pub file : file_of new name ≡ Some bytes
  pub others : (other : List ℕ) → other ≢ name → file_of new other ≡ file_of old other

-- the file is a front of these bytes or as before, and every other file is as before
pub record HoldsPart (old new : Files) (name bytes : List ℕ) : Type 0 where
  pub file : (file_of new name ≡ file_of old name) ⊎ ((n : ℕ) × (file_of new name ≡ Some (take n bytes)))
  pub others : (other : List ℕ) → other ≢ name → file_of new other ≡ file_of old other
