-- Epochs of a run, as they are counted and merged.
use Rattle.std.specs.Prelude.{◌≡◌, ℕ, ◌+◌, ◌<◌, ◌≤◌, List, [], ◌++◌, map, length, sum_by, All, Result, Ok, Err}
use Rattle.std.specs.Prelude.{◌∷◌, ◌-◌, ◌≢◌, Option, Some, None, IfSome, slice_get, true, false}
use Rattle.prof_bytes.specs.declared.fail.Fail.{Fail}
use Rattle.prof_bytes.specs.declared.fail.Fail.TheVariants as fails
use Rattle.prof_bytes.specs.Outcome.{FailsBy}
use Rattle.scope_types.specs.Distinct.{ColumnRaw, distinct, frames_in, samples_in, scopes_in}
use Rattle.scope_types.specs.Limits.{most_frames_in_all, most_samples, most_scopes_in_all}
use Rattle.scope_types.specs.Raw.{Raw}
use Rattle.scope_types.specs.declared.frame.Counted.{Counted}
use Rattle.scope_types.specs.declared.scope.Scope.{Scope}
use Rattle.rv_run.specs.Progress.{to_come}
use Rattle.sample_clock.specs.declared.clock.Sample.{Sample}
use Rattle.sample_clock.specs.Samples.{Paths}
use Rattle.sample_clock.specs.Clock.{Sampling, Given, IsOver, AreTooMany, samples_to_come}
use Rattle.tree_types.specs.Tree.{CountedTree, counts_in}
use Rattle.tree_join.specs.Join.{sampled_paths}
use Rattle.live_merge.specs.Live.{AtSamples, Gave, StandsWithin, coming, few_frames_of, few_of_run, few_scopes_of}
use Rattle.live_merge.specs.Live.{raw_of}
use Rattle.live_merge.specs.Sum.{HasPaths}
use Rattle.live_merge.specs.declared.epoch.Epoch.{Epoch}
use Rattle.live_merge.specs.declared.fault.LiveFault.{LiveFault}
use Rattle.live_merge.specs.declared.fault.LiveFault.TheVariants.{TooManySamples, TooManyFrames, TooManyScopes}
use Rattle.live_merge.specs.declared.trees.Grown.{Grown}
use Rattle.live_merge.specs.declared.trees.Trees.{Trees}

-- the raw paths of samples, by their columns
abbrev pub raws : Sampling → List Sample → List ColumnRaw
raws s given = map (raw_of (length s.events)) given

-- ---- one sample

-- the next sample, of the same events
pub record GivesOne (path_of : Paths) (sample : Sample) (old new : Sampling) : Type 0 where
  pub given : Given path_of sample old new
  pub events : new.events ≡ old.events

-- none is left
pub record GivesNone (path_of : Paths) (old new : Sampling) : Type 0 where
  pub over : IsOver path_of old new
  pub events : new.events ≡ old.events

-- one more than there may be
pub record Exceeds (path_of : Paths) (fault : LiveFault) (old new : Sampling) : Type 0 where
  pub is : fault ≡ TooManySamples
  pub many : AreTooMany path_of old new

-- why no sample is given: there is one more than there may be, or memory ran out
abbrev pub Stops : Paths → Fail LiveFault → Sampling → Sampling → Type 0
Stops path_of (fails.Fault fault) old new = Exceeds path_of fault old new
Stops path_of (fails.Memory memory) old new = Gave path_of [] old new

-- the next sample, or none
abbrev pub GivesNext : Paths → Result (Option Sample) (Fail LiveFault) → Sampling → Sampling → Type 0
GivesNext path_of (Ok (Some sample)) old new = GivesOne path_of sample old new
GivesNext path_of (Ok None) old new = GivesNone path_of old new
GivesNext path_of (Err fail) old new = Stops path_of fail old new

-- ---- an epoch

-- the samples of an epoch were given, and counted: with those of all epochs before, and alone. It has as many as were
-- asked for; or it is the last, which may have fewer, and the run is at its end
pub record IsEpoch (path_of : Paths) (columns most : ℕ) (done : List ColumnRaw) (epoch : Epoch)
    (all : List (List Counted)) (old new : Sampling) : Type 0 where
  pub given : List Sample
  pub left : epoch.is_last ≡ false → Gave path_of given old new
  pub none : epoch.is_last ≡ true → samples_to_come path_of old ≡ given
  pub events : new.events ≡ old.events
  pub all_are : all ≡ distinct columns (done ++ raws old given)
  pub fits : frames_in all ≤ most_frames_in_all
  pub own_are : epoch.ccts ≡ distinct columns (raws old given)
  pub own_count : samples_in epoch.ccts ≡ length given
  pub samples : epoch.samples ≡ length given
  pub met : new.met ≡ old.met + length given
  pub few : new.met ≤ most_samples
  pub count : samples_in all ≡ new.met
  pub within : length given ≤ most
  pub full : epoch.is_last ≡ false → length given ≡ most
  pub ended : epoch.is_last ≡ true → new.machine.state ≡ (to_come old.machine).final
  pub last : (to_come new.machine).final ≡ (to_come old.machine).final

-- right after the first sample with which the distinct raw paths have too many frames, those of the samples before
-- among them
pub record AtFramesAfter (path_of : Paths) (columns : ℕ) (done : List ColumnRaw) (old new : Sampling) : Type 0 where
  pub given : List Sample
  pub last : Sample
  pub gave : Gave path_of (given ++ last ∷ []) old new
  pub few : few_frames_of (distinct columns (done ++ raws old given)) ≡ Ok (distinct columns (done ++ raws old given))
  pub many : few_frames_of (distinct columns (done ++ raws old (given ++ last ∷ []))) ≡ Err TooManyFrames

-- where the run is after a limit that it meets in an epoch
abbrev pub StandsInEpoch : Paths → ℕ → List ColumnRaw → LiveFault → Sampling → Sampling → Type 0
StandsInEpoch path_of columns done TooManySamples old new = AtSamples path_of old new
StandsInEpoch path_of columns done TooManyFrames old new = AtFramesAfter path_of columns done old new
StandsInEpoch path_of columns done TooManyScopes old new = ⊥

-- the limit that the run meets after samples that were counted, or memory ran out
abbrev pub MeetsLimit : Paths → ℕ → List ColumnRaw → Fail LiveFault → Sampling → Sampling → Type 0
MeetsLimit path_of columns done (fails.Fault fault) old new =
    (few_of_run columns (done ++ coming path_of old) ≡ Err fault) × StandsInEpoch path_of columns done fault old new
MeetsLimit path_of columns done (fails.Memory memory) old new = StandsWithin path_of old new

-- an epoch, after samples that were counted; or the limit that the run meets in it, or memory ran out
abbrev pub GivesEpoch : Paths → ℕ → ℕ → List ColumnRaw → Result Epoch (Fail LiveFault) → List (List Counted)
    → Sampling → Sampling → Type 0
GivesEpoch path_of columns most done (Ok epoch) all old new = IsEpoch path_of columns most done epoch all old new
GivesEpoch path_of columns most done (Err fail) all old new = MeetsLimit path_of columns done fail old new

-- ---- what remains of a run

-- the samples that were left were given, and counted with all before, and the run is at its end
pub record IsRest (path_of : Paths) (columns : ℕ) (done : List ColumnRaw) (samples : ℕ) (all : List (List Counted))
    (old new : Sampling) : Type 0 where
  pub given : List Sample
  pub none : samples_to_come path_of old ≡ given
  pub events : new.events ≡ old.events
  pub all_are : all ≡ distinct columns (done ++ raws old given)
  pub fits : frames_in all ≤ most_frames_in_all
  pub samples_are : samples ≡ length given
  pub met : new.met ≡ old.met + length given
  pub few : new.met ≤ most_samples
  pub count : samples_in all ≡ new.met
  pub ended : new.machine.state ≡ (to_come old.machine).final
  pub last : (to_come new.machine).final ≡ (to_come old.machine).final

-- what remains of a run; or the limit that it meets, or memory ran out
abbrev pub GivesRest : Paths → ℕ → List ColumnRaw → Result ℕ (Fail LiveFault) → List (List Counted) → Sampling → Sampling
    → Type 0
GivesRest path_of columns done (Ok samples) all old new = IsRest path_of columns done samples all old new
GivesRest path_of columns done (Err fail) all old new = MeetsLimit path_of columns done fail old new

-- ---- trees of epochs

-- the call paths of samples have more scopes than there may be
abbrev pub HaveTooManyScopes : (Raw → List Scope) → ℕ → List ColumnRaw → Type 0
HaveTooManyScopes call_path columns done = most_scopes_in_all < scopes_in call_path (distinct columns done)

-- each tree has so many columns, and few enough nodes
abbrev pub AreSmall : ℕ → List Grown → Type 0
AreSmall columns [] = Unit {0}
AreSmall columns (d ∷ trees) =
    (d.tree.columns ≡ columns) × (length d.tree.nodes ≤ most_scopes_in_all) × AreSmall columns trees

-- how many samples the trees count
abbrev pub counted_by : List Grown → ℕ
counted_by trees = sum_by (λ d. counts_in d.tree.counts) trees

-- trees of the parts of these samples, in order
abbrev pub AreParts : (Raw → List Scope) → List ColumnRaw → List Grown → Type 0
AreParts call_path samples [] = samples ≡ []
AreParts call_path samples (d ∷ trees) = (own : List ColumnRaw) × (rest : List ColumnRaw) × (samples ≡ own ++ rest)
    × HasPaths (sampled_paths call_path own) d.tree × AreParts call_path rest trees

-- what is merged of samples that were counted: the trees of their parts, unless their call paths have too many scopes
pub record AreMerged (call_path : Raw → List Scope) (columns : ℕ) (done : List ColumnRaw) (t : Trees) : Type 0 where
  pub over : t.is_over ≡ true → HaveTooManyScopes call_path columns done
  pub parts : t.is_over ≡ false → AreParts call_path done t.trees.items

-- the samples of an epoch, which was counted, are merged after those before
pub record Merges (call_path : Raw → List Scope) (epoch : List (List Counted)) (old new : Trees) : Type 0 where
  pub some : new.is_over ≡ false → 0 < length new.trees.items
  pub small : AreSmall (length epoch) new.trees.items
  pub counted : counted_by new.trees.items ≤ counted_by old.trees.items + samples_in epoch
  pub merged : (done own : List ColumnRaw) → All (λ s. s.column < length epoch) (done ++ own)
      → AreMerged call_path (length epoch) done old → epoch ≡ distinct (length epoch) own
      → AreMerged call_path (length epoch) (done ++ own) new

-- there is a tree, unless the samples have too many scopes
abbrev pub HasTree : Trees → Type 0
HasTree t = t.is_over ≡ false → 0 < length t.trees.items

-- the tree of all samples, unless these have too many scopes
abbrev pub GivesSum : (Raw → List Scope) → ℕ → List ColumnRaw → Option CountedTree → Type 0
GivesSum call_path columns done None = HaveTooManyScopes call_path columns done
GivesSum call_path columns done (Some tree) = HasPaths (sampled_paths call_path done) tree

-- the sum of the trees and of the last epoch's, whose samples were counted: it has as many columns, and is the tree of
-- all samples, unless these have too many scopes
pub record AddsAll (call_path : Raw → List Scope) (epoch : List (List Counted)) (old : Trees) (sum : Option CountedTree)
    : Type 0 where
  pub columns : IfSome sum (λ tree. tree.columns ≡ length epoch)
  pub sum_is : (done own : List ColumnRaw) → All (λ s. s.column < length epoch) (done ++ own)
      → AreMerged call_path (length epoch) done old → epoch ≡ distinct (length epoch) own
      → GivesSum call_path (length epoch) (done ++ own) sum

-- the last tree is taken where it is of this level, and none else
abbrev pub TakesLevel : ℕ → Option CountedTree → List Grown → List Grown → Type 0
TakesLevel level None old new = (new ≡ old) × IfSome (slice_get old (length old - 1)) (λ last. last.level ≢ level)
TakesLevel level (Some tree) old new = old ≡ new ++ record { level = level; tree = tree } ∷ []

-- ---- the whole run

-- the tree of the samples, unless they have too many scopes, or memory ran out
abbrev pub GivesWhole : (Raw → List Scope) → ℕ → List ColumnRaw → Result CountedTree (Fail LiveFault) → Type 0
GivesWhole call_path columns done (Ok tree) =
    (few_scopes_of call_path columns done ≡ Ok done) × HasPaths (sampled_paths call_path done) tree
GivesWhole call_path columns done (Err fail) = FailsBy fail (few_scopes_of call_path columns done)
