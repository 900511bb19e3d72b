-- The sums that a reader of paths keeps.
use Rattle.std.specs.Prelude.{◌≡◌, ℕ, ◌≤◌, List}
use Rattle.scope_types.specs.declared.frame.Counted.{Counted}
use Rattle.scope_types.specs.Distinct.{frames_in, samples_in}
use Rattle.scope_types.specs.Limits.{most_frames_in_all, most_samples}

-- the paths that were read count `counted` samples and have `held` frames, and both are within the limits
pub record AreSums (tables : List (List Counted)) (counted held : ℕ) : Type 0 where
  pub samples : counted ≡ samples_in tables
  pub few_samples : counted ≤ most_samples
  pub frames : held ≡ frames_in tables
  pub few_frames : held ≤ most_frames_in_all
