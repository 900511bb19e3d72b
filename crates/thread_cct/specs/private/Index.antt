-- Where the paths of each column begin in the plan.
use Rattle.std.specs.Prelude.{◌≡◌, ℕ, ◌+◌, ◌<◌, ◌≤◌, ◌^◌, List, [], ◌∷◌, length, slice_index}
use Rattle.scope_types.specs.declared.frame.Counted.{Counted}
use Rattle.scope_types.specs.Distinct.{samples_in}
use Rattle.scope_types.specs.Limits.{most_samples}
use Rattle.thread_cct.specs.Plan.{plan_of}

-- the number of each column's first path, where a given number lie before
abbrev pub first_paths : ℕ → List (List Counted) → List ℕ
first_paths before [] = []
first_paths before (table ∷ tables) = before ∷ first_paths (before + length table) tables

-- the first paths' numbers, and how many paths there are, which are few
pub record IsIndexed (tables : List (List Counted)) (numbers : List ℕ) (paths : ℕ) : Type 0 where
  pub columns : length tables < 2 ^ 32
  pub firsts : numbers ≡ first_paths 0 tables
  pub is : paths ≡ length (plan_of tables).paths
  pub few : paths ≤ samples_in tables
  pub samples : samples_in tables ≤ most_samples

-- the last number from the front on that isn't above another
pub record IsLastFrom (numbers : List ℕ) (number last : ℕ) : Type 0 where
  pub below : (i : ℕ) → i ≤ last → i < length numbers → slice_index numbers i ≤ number
  pub above : (i : ℕ) → last < i → i < length numbers → number < slice_index numbers i
