-- The fields of the tables, and the counted paths that they are.
use Rattle.std.specs.Prelude.{◌≡◌, ℕ, ◌<◌, ◌≤◌, ◌^◌, List, [], ◌∷◌, length, map, All, true, false, zero, suc}
use Rattle.scope_types.specs.declared.frame.Counted.{Counted}
use Rattle.scope_types.specs.Raw.{Raw, same_raw}
use Rattle.scope_types.specs.Distinct.{frames_in, samples_in}
use Rattle.scope_types.specs.Limits.{most_frames_in_all, most_samples}

-- the counted paths of the table's entries
abbrev pub counted_of : Raw × ℕ → Counted
counted_of e = record { path = e.0; count = e.1 }

-- and of all entries of a table
abbrev pub counted_in : List (Raw × ℕ) → List Counted
counted_in entries = map counted_of entries

-- the first of the counted paths that is the same as this one is at this index
abbrev pub IsPathAt : Raw → List Counted → ℕ → Type 0
IsPathAt raw [] index = ⊥
IsPathAt raw (c ∷ counted) zero = same_raw raw c.path ≡ true
IsPathAt raw (c ∷ counted) (suc index) = (same_raw raw c.path ≡ false) × IsPathAt raw counted index

-- what is in counted paths of several columns: a given number of frames, which are few, and some in each path; few
-- samples, and some of each path
pub record FramesFit (tables : List (List Counted)) (frames : ℕ) : Type 0 where
  pub columns : length tables < 2 ^ 32
  pub is : frames ≡ frames_in tables
  pub few : frames ≤ most_frames_in_all
  pub some : All (All (λ c. 0 < length c.path.frames)) tables
  pub samples : samples_in tables ≤ most_samples
  pub counted : All (All (λ c. 0 < c.count)) tables
