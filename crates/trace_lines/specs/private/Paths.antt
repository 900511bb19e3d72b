-- The fields of a hart in memory, and the trace that they are.
use Rattle.std.specs.Prelude.{◌≡◌, ℕ, ◌<◌, ◌≤◌, List, [], ◌∷◌, length, map, All}
use Rattle.std.specs.List.{IsDistinct}
use Rattle.scope_types.specs.Raw.{Raw, HasFrames, same_raw}
use Rattle.scope_types.specs.Limits.{most_frames_in_all, most_harts, most_samples}
use Rattle.trace_lines.specs.Traces.{HartTrace, Traced, distinct_paths, frames_traced, samples_traced}
use Rattle.trace_lines.specs.Reading.{SamplesRead, path_at, used_with}

-- the raw path of each sample, by the place of its path
abbrev pub samples_at : List Raw → List ℕ → List Raw
samples_at paths places = map (path_at paths) places

-- the paths are those of the samples, each once, in order of first sample; and each place is one of theirs
pub record ArePathsOf (paths : List Raw) (places : List ℕ) : Type 0 where
  pub distinct : paths ≡ distinct_paths (samples_at paths places)
  pub below : All (λ place. place < length paths) places
  pub few : length places ≤ most_samples

-- harts of a trace: not too many, raw paths of 1 to 512 frames, and the sums of samples and of frames, which are within
-- their limits
pub record AreHarts (harts : List HartTrace) (samples frames : ℕ) : Type 0 where
  pub few : length harts ≤ most_harts
  pub paths : All (λ h. All (λ raw. HasFrames raw.frames) h.samples) harts
  pub samples_are : samples ≡ samples_traced harts
  pub few_samples : samples ≤ most_samples
  pub frames_are : frames ≡ frames_traced harts
  pub few_frames : frames ≤ most_frames_in_all

-- a trace of some harts, with a period
pub record IsSomeTrace (t : Traced) : Type 0 where
  pub period : 1 ≤ t.period
  pub some : 1 ≤ length t.harts

-- ---- what was read of a hart

-- how many paths, from the first on, have been used after these places, where so many had been before
abbrev pub used_after : ℕ → List ℕ → ℕ
used_after used [] = used
used_after used (place ∷ places) = used_after (used_with used place) places

-- each place is one of those used before it, or the next
abbrev pub AreFirstSeen : ℕ → List ℕ → Type 0
AreFirstSeen used [] = Unit {0}
AreFirstSeen used (place ∷ places) =
    (place ≤ used) × AreFirstSeen (used_with used place) places

-- each of these raw paths has 1 to 512 frames
abbrev pub HaveFrames : List Raw → Type 0
HaveFrames paths = All (λ raw. HasFrames raw.frames) paths

-- none of these raw paths is the same as one before it
abbrev pub AreDistinctRaws : List Raw → Type 0
AreDistinctRaws paths = IsDistinct same_raw paths

-- the samples of places that were read, and how many paths they have
abbrev pub samples_read : List Raw → List ℕ → ℕ → SamplesRead
samples_read paths places used = record { samples = samples_at paths places; used = used }

-- places of so many paths that have the first `used` of these: each is one of those that were there before it, or the
-- next
pub record AreUsed (paths : ℕ) (places : List ℕ) (used : ℕ) : Type 0 where
  pub first : used ≡ used_after 0 places
  pub next : AreFirstSeen 0 places
  pub below : All (λ place. place < paths) places
  pub within : used ≤ paths
  pub few : used ≤ length places
