-- The paths of one column, read by themselves, and what a reader knows of them before it has looked for repeats.
use Rattle.std.specs.Prelude.{◌≡◌, ℕ, ◌+◌, ◌≤◌, List, [], ◌∷◌, ◌++◌, length, map, slice_index_or}
use Rattle.std.specs.Prelude.{Result, Ok, Err, if◌then◌else◌}
use Rattle.prof_bytes.specs.Outcome.{◌>>=◌}
use Rattle.prof_bytes.specs.Reading.{At}
use Rattle.prof_bytes.specs.Repeated.{adding, times}
use Rattle.prof_bytes.specs.declared.fail.Fail.{Fail}
use Rattle.prof_bytes.specs.declared.fail.Fail.TheVariants as fails
use Rattle.scope_types.specs.declared.frame.Counted.{Counted}
use Rattle.scope_types.specs.declared.frame.End.{End}
use Rattle.scope_types.specs.Ends.{end_of_number}
use Rattle.scope_types.specs.Limits.{most_frames_in_all, most_samples}
use Rattle.thread_cct.specs.Adding.{has_path}
use Rattle.thread_cct.specs.Listing.{HasNoRepeat, IsFirstRepeat, frame_at, frames_of_all, samples_of}
use Rattle.measure_file.specs.declared.fault.MeasureFault.{MeasureFault}
use Rattle.measure_file.specs.Fields.{MeasureRead, fault_at, word_by}
use Rattle.measure_file.specs.Reading.{is_count, is_end_number, is_length, measured_frame_from}

-- a path of an end and addresses, with its count
abbrev pub path_of : End → List ℕ → ℕ → Counted
path_of end pcs count = record { path = record { end = end; frames = map frame_at pcs }; count = count }

-- a path with its count, and the offset of its first pc, where so many samples and frames were read before
unfoldable pub path_fields_from : ℕ → ℕ → At → MeasureRead (Counted × ℕ)
path_fields_from samples frames at = do
  (count, next) ← word_by (is_count samples) at
  (end, next) ← word_by is_end_number next
  (length, first_pc) ← word_by (is_length frames) next
  (found, next) ← times (adding measured_frame_from) length 0 [] first_pc
  Ok ((record { path = record { end = end_of_number end; frames = found }; count = count }, first_pc.offset), next)

-- the paths of a column and one more, unless it is there already
abbrev pub with_new : List Counted → (Counted × ℕ) × At → MeasureRead (List Counted)
with_new paths r = if has_path r.0.0.path paths then Err (fault_at r.0.1) else Ok (paths ++ r.0.0 ∷ [], r.1)

-- a path of a column after those that were read, where so many samples and frames are in the columns before
unfoldable pub column_path_from : ℕ → ℕ → List Counted → At → MeasureRead (List Counted)
column_path_from samples frames paths at = do
  (fields, next) ← path_fields_from (samples + samples_of paths) (frames + frames_of_all paths) at
  with_new paths (fields, next)

-- so many paths of a column
abbrev pub column_paths_from : ℕ → ℕ → ℕ → At → MeasureRead (List Counted)
column_paths_from samples frames count at = times (λ i. column_path_from samples frames) count 0 [] at

-- the sums with those of a column's paths
pub record AreSumsWith (samples frames : ℕ) (paths : List Counted) (counted held : ℕ) : Type 0 where
  pub samples_is : counted ≡ samples + samples_of paths
  pub few_samples : counted ≤ most_samples
  pub frames_is : held ≡ frames + frames_of_all paths
  pub few_frames : held ≤ most_frames_in_all

-- the first path that repeats another is the fault that a reading gives, at the offset of its first pc
abbrev pub RepeatsAreFaults : List Counted → List ℕ → MeasureRead (List Counted) → Type 0
RepeatsAreFaults paths first_pcs wanted = (k : ℕ) → IsFirstRepeat paths k
    → wanted ≡ Err (fault_at (slice_index_or first_pcs k 0))

-- paths were read up to the last, or to a fault that is not a repeat; and there was memory
abbrev pub ReadsColumn : List Counted → List ℕ → At → MeasureRead (List Counted)
    → Result (Unit {0}) (Fail MeasureFault) → Type 0
ReadsColumn paths first_pcs after wanted (Ok done) =
    (HasNoRepeat paths → wanted ≡ Ok (paths, after)) × RepeatsAreFaults paths first_pcs wanted
    × (length first_pcs ≡ length paths)
ReadsColumn paths first_pcs after wanted (Err (fails.Fault fault)) =
    (HasNoRepeat paths → wanted ≡ Err fault) × RepeatsAreFaults paths first_pcs wanted
    × (length first_pcs ≡ length paths)
ReadsColumn paths first_pcs after wanted (Err (fails.Memory memory)) = Unit {0}

-- a path was read after others
abbrev pub ReadsPath : List Counted → List Counted → List ℕ → List ℕ → At → MeasureRead (Counted × ℕ)
    → Result (Unit {0}) (Fail MeasureFault) → Type 0
ReadsPath old new first_pcs more after wanted (Ok done) =
    (r : Counted × ℕ) × (wanted ≡ Ok (r, after)) × (new ≡ old ++ r.0 ∷ []) × (more ≡ first_pcs ++ r.1 ∷ [])
ReadsPath old new first_pcs more after wanted (Err (fails.Fault fault)) =
    (wanted ≡ Err fault) × (new ≡ old) × (more ≡ first_pcs)
ReadsPath old new first_pcs more after wanted (Err (fails.Memory memory)) = Unit {0}

-- what is told of repeats: there is none, or the first is a fault
abbrev pub JudgesRepeats : List Counted → List ℕ → Result (Unit {0}) (Fail MeasureFault) → Type 0
JudgesRepeats paths first_pcs (Ok done) = HasNoRepeat paths
JudgesRepeats paths first_pcs (Err (fails.Fault fault)) =
    (k : ℕ) × IsFirstRepeat paths k × (fault ≡ fault_at (slice_index_or first_pcs k 0))
JudgesRepeats paths first_pcs (Err (fails.Memory memory)) = Unit {0}
