-- Where entries begin, by a flag for each byte of .debug_info.
use Rattle.std.specs.Prelude.{◌≡◌, ◌<◌, ◌≤◌, ◌+◌, ◌*◌, ◌^◌, ℕ, Bool, true, false, List, [], ◌∷◌, length, take, Some}
use Rattle.std.specs.Prelude.{slice_get, slice_index_or}

-- the offsets of the flags that are set, where the first flag is that of an offset
unfoldable pub set_from : ℕ → List Bool → List ℕ
set_from offset [] = []
set_from offset (true ∷ flags) = offset ∷ set_from (offset + 1) flags
set_from offset (false ∷ flags) = set_from (offset + 1) flags

-- the offsets that are marked; an offset after all of them; the number of bytes of the section
pub record Marked : Type 0 where
  pub offsets : List ℕ
  pub end : ℕ
  pub bytes : ℕ

-- these are the first of some offsets
abbrev pub AreListed : List ℕ → List ℕ → Type 0
AreListed offsets listed = (k v : ℕ) → slice_get listed k ≡ Some v → slice_get offsets k ≡ Some v

-- how many flags are set, and none from an offset on; the first of the offsets are listed
pub record AreMarks (flags : List Bool) (listed : List ℕ) (count end : ℕ) : Type 0 where
  pub counted : count ≡ length (set_from 0 flags)
  pub firsts : AreListed (set_from 0 flags) listed
  pub ends : (offset : ℕ) → slice_get flags offset ≡ Some true → offset < end
  pub few : length flags < 2 ^ 31

-- how many flags are set before each block of 32
pub record AreCounts (flags : List Bool) (counts : List ℕ) : Type 0 where
  pub counted : (block : ℕ) (count : ℕ) → slice_get counts block ≡ Some count
      → count ≡ length (set_from 0 (take (32 * block) flags))
  pub starts : (block : ℕ) → block < length counts → 32 * block < length flags
  pub blocks : length flags ≤ 32 * length counts
  pub few : length flags < 2 ^ 31

-- of numbers that don't fall, the first `count` are at most a number, and the others above it
pub record IsCountUpTo (most : ℕ) (numbers : List ℕ) (count : ℕ) : Type 0 where
  pub within : count ≤ length numbers
  pub below : (i : ℕ) (d : ℕ) → i < count → slice_index_or numbers i d ≤ most
  pub above : (i : ℕ) (d : ℕ) → count ≤ i → i < length numbers → most < slice_index_or numbers i d
