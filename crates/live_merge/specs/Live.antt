-- A run whose samples are merged while it goes on: the tree of all its samples, or the first limit that it meets.
use Rattle.std.specs.Prelude.{◌≡◌, ◌⊎◌, ℕ, List, [], ◌∷◌, ◌++◌, map, length, take, Result, Ok, Err}
use Rattle.std.specs.Prelude.{if◌then◌else◌, nat_lt}
use Rattle.prof_bytes.specs.declared.fail.Fail.{Fail}
use Rattle.prof_bytes.specs.declared.fail.Fail.TheVariants as fails
use Rattle.prof_bytes.specs.Outcome.{◌>>=◌, FailsBy}
use Rattle.scope_types.specs.CallPaths.{each_path}
use Rattle.scope_types.specs.Columns.{column_of}
use Rattle.scope_types.specs.Distinct.{ColumnRaw, distinct, frames_in, scopes_in}
use Rattle.scope_types.specs.Limits.{most_samples, most_frames_in_all, most_scopes_in_all}
use Rattle.scope_types.specs.Raw.{Raw}
use Rattle.scope_types.specs.declared.frame.Counted.{Counted}
use Rattle.scope_types.specs.declared.scope.Scope.{Scope}
use Rattle.thread_cct.specs.Plan.{Planned, expanded_paths}
use Rattle.rv_run.specs.Progress.{to_come}
use Rattle.sample_clock.specs.declared.clock.Sample.{Sample}
use Rattle.sample_clock.specs.Samples.{Paths}
use Rattle.sample_clock.specs.Clock.{Sampling, AreTooMany, samples_to_come}
use Rattle.tree_types.specs.Tree.{CountedTree, counts_in}
use Rattle.tree_join.specs.Join.{sampled_paths}
use Rattle.live_merge.specs.Sum.{HasPaths}
use Rattle.live_merge.specs.declared.fault.LiveFault.{LiveFault}
use Rattle.live_merge.specs.declared.fault.LiveFault.TheVariants.{TooManySamples, TooManyFrames, TooManyScopes}
use Rattle.live_merge.specs.declared.run.Live.{Live}

-- ---- the samples

-- a sample of so many events, as its column, which is that of its hart and of its event, and its raw path
abbrev pub raw_of : ℕ → Sample → ColumnRaw
raw_of events s = record { column = column_of events s.hart s.event; raw = s.path }

-- the samples that are to come of a run that is under way
abbrev pub coming : Paths → Sampling → List ColumnRaw
coming path_of s = map (raw_of (length s.events)) (samples_to_come path_of s)

-- ---- the limits

-- the counted paths, unless they have too many frames
abbrev pub few_frames_of : List (List Counted) → Result (List (List Counted)) LiveFault
few_frames_of tables = if nat_lt most_frames_in_all (frames_in tables) then Err TooManyFrames else Ok tables

-- the samples, unless there are too many
abbrev pub few_of : List ColumnRaw → Result (List ColumnRaw) LiveFault
few_of all = if nat_lt most_samples (length all) then Err TooManySamples else Ok all

-- the samples, unless the call paths of their distinct raw paths have too many scopes
abbrev pub few_scopes_of : (Raw → List Scope) → ℕ → List ColumnRaw → Result (List ColumnRaw) LiveFault
few_scopes_of call_path columns all =
    if nat_lt most_scopes_in_all (scopes_in call_path (distinct columns all)) then Err TooManyScopes else Ok all

-- the samples of a run, or the first limit that it meets while it goes on: too many frames of the distinct raw paths of
-- all columns, or too many samples
abbrev pub few_of_run : ℕ → List ColumnRaw → Result (List ColumnRaw) LiveFault
few_of_run columns all = do
  _ ← few_frames_of (distinct columns (take most_samples all))
  few_of all

-- and at its end too many scopes. The epochs have no part in it
abbrev pub within_limits : (Raw → List Scope) → ℕ → List ColumnRaw → Result (List ColumnRaw) LiveFault
within_limits call_path columns all = do
  few ← few_of_run columns all
  few_scopes_of call_path columns few

-- ---- the tree of a plan

-- the tree of a plan's paths, expanded: its columns, the nodes and counts of these call paths, and how many they are
pub record IsMerged (plan : Planned) (call_path : Raw → List Scope) (tree : CountedTree) : Type 0 where
  pub columns : tree.columns ≡ plan.columns
  pub paths : HasPaths (each_path (expanded_paths call_path plan)) tree
  pub samples : counts_in tree.counts ≡ length (each_path (expanded_paths call_path plan))

-- ---- the answer

-- the tree of all samples of the run, and their counts; the run has no more than there may be, and is at its end
pub record IsWhole (path_of : Paths) (call_path : Raw → List Scope) (columns : ℕ) (live : Live) (old new : Sampling)
    : Type 0 where
  pub limits : within_limits call_path columns (coming path_of old) ≡ Ok (coming path_of old)
  pub columns_are : live.tree.columns ≡ columns
  pub paths : HasPaths (sampled_paths call_path (coming path_of old)) live.tree
  pub counted : live.ccts ≡ distinct columns (coming path_of old)
  pub samples : live.samples ≡ length (coming path_of old)
  pub ended : new.machine.state ≡ (to_come old.machine).final

-- the tree of all samples of the run; or the limit that the whole run meets first, or memory ran out
abbrev pub AnswersLive : Paths → (Raw → List Scope) → ℕ → Result Live (Fail LiveFault) → Sampling → Sampling → Type 0
AnswersLive path_of call_path columns (Ok live) old new = IsWhole path_of call_path columns live old new
AnswersLive path_of call_path columns (Err fail) old new =
    FailsBy fail (within_limits call_path columns (coming path_of old))

-- ---- where the run is after a refusal

-- some samples were given, and the others are still to come
pub record Gave (path_of : Paths) (given : List Sample) (old new : Sampling) : Type 0 where
  pub parts : samples_to_come path_of old ≡ given ++ samples_to_come path_of new
  pub events : new.events ≡ old.events

-- right after the first sample with which the distinct raw paths have too many frames
pub record AtFrames (path_of : Paths) (columns : ℕ) (old new : Sampling) : Type 0 where
  pub given : List Sample
  pub last : Sample
  pub gave : Gave path_of (given ++ last ∷ []) old new
  pub few : few_frames_of (distinct columns (map (raw_of (length old.events)) given))
      ≡ Ok (distinct columns (map (raw_of (length old.events)) given))
  pub many : few_frames_of (distinct columns (map (raw_of (length old.events)) (given ++ last ∷ []))) ≡ Err TooManyFrames

-- after as many samples as there may be, and one more
pub record AtSamples (path_of : Paths) (old new : Sampling) : Type 0 where
  pub given : List Sample
  pub before : Sampling
  pub gave : Gave path_of given old before
  pub many : AreTooMany path_of before new

-- where the run is after a limit: where it was met
abbrev pub StandsAt : Paths → ℕ → LiveFault → Sampling → Sampling → Type 0
StandsAt path_of columns TooManySamples old new = AtSamples path_of old new
StandsAt path_of columns TooManyFrames old new = AtFrames path_of columns old new
StandsAt path_of columns TooManyScopes old new = new.machine.state ≡ (to_come old.machine).final

-- after samples that were given, where the others are still to come; or at the end of the run
abbrev pub StandsWithin : Paths → Sampling → Sampling → Type 0
StandsWithin path_of old new = ((given : List Sample) × Gave path_of given old new)
    ⊎ (new.machine.state ≡ (to_come old.machine).final)

-- where the run is after each answer
abbrev pub StandsAfter : Paths → ℕ → Result Live (Fail LiveFault) → Sampling → Sampling → Type 0
StandsAfter path_of columns (Ok live) old new = new.machine.state ≡ (to_come old.machine).final
StandsAfter path_of columns (Err (fails.Fault fault)) old new = StandsAt path_of columns fault old new
StandsAfter path_of columns (Err (fails.Memory memory)) old new = StandsWithin path_of old new
