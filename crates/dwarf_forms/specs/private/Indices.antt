-- Where the declarations of an abbreviation table are found by their code.
use Rattle.std.specs.Prelude.{◌≡◌, ℕ, ◌+◌, ◌<◌, ◌≤◌, ◌==◌, List, length, position, slice_index_or}
use Rattle.std.specs.Ordering.{nat_cmp}
use Rattle.std.specs.BTreeMap.{get, BTreeMap}
use Rattle.dwarf_forms.specs.declared.declaration.Abbrev.{Abbrev}

-- the index of a declaration by its code
abbrev pub Indices : Type 0
Indices = BTreeMap ℕ ℕ

-- the codes of the first `count` declarations are 1, 2, 3 and so on
pub record IsNumbered (declared : List Abbrev) (count : ℕ) : Type 0 where
  pub within : count ≤ length declared
  pub codes : (i : ℕ) (d : Abbrev) → i < count → (slice_index_or declared i d).code ≡ i + 1

-- each code leads to the index of its first declaration
abbrev pub AreIndices : List Abbrev → Indices → Type 0
AreIndices declared indices = (code : ℕ) → get nat_cmp indices code ≡ position (λ d. d.code == code) declared

-- the first `count` declarations are numbered; where there are others, each code leads to its first declaration
pub record AreKept (declared : List Abbrev) (count : ℕ) (indices : Indices) : Type 0 where
  pub front : IsNumbered declared count
  pub others : count < length declared → AreIndices declared indices
