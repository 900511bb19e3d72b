-- The paths of one column, read by themselves, are those that are read among all columns.
use Rattle.std.proofs.Common.{◌≡◌, ℕ, zero, suc, ◌+◌, ◌<◌, ◌≤◌, true, false, cond, List, [], ◌∷◌, ◌++◌, length, replicate, Result, Ok, Err, refl, sym, ap, ◌∙◌, arith}
use Rattle.std.specs.Prelude.{slice_set}
use Rattle.std.proofs.lemmas.List.{get_or-set_same, get_or-set_other, length-replicate, length-set, set-get_or, set-set}
use Rattle.prof_bytes.specs.Outcome.{◌>>=◌, FailsBy, viewed}
use Rattle.prof_bytes.specs.Reading.{At}
use Rattle.prof_bytes.specs.Repeated.{adding, times}
use Rattle.prof_bytes.specs.declared.fail.Fail.{Fail}
use Rattle.prof_bytes.specs.declared.fail.Fail.TheVariants as fails
use Rattle.scope_types.specs.declared.frame.Counted.{Counted}
use Rattle.scope_types.specs.Distinct.{frames_in, samples_in}
use Rattle.thread_cct.specs.Adding.{has_path, of_column, with_path}
use Rattle.thread_cct.specs.Listing.{frames_of_all, samples_of}
use Rattle.thread_cct.proofs.Putting.{put_samples, put_frames}
use Rattle.measure_file.specs.declared.fault.MeasureFault.{MeasureFault}
use Rattle.measure_file.specs.Fields.{MeasureRead, fault_at, word_by, word_from}
use Rattle.measure_file.specs.Reading.{column_from, is_count, is_end_number, is_length, measured_frame_from, measured_path_from, new_path}
use Rattle.measure_file.specs.private.Columns.{column_path_from, column_paths_from, path_fields_from, with_new}
use Rattle.measure_file.proofs.Seams.{Tables}

-- what comes after two steps comes after both
both_steps : {X Y Z F : Type 0} (r : Result X F) (f : X → Result Y F) (g : Y → Result Z F) (h : X → Result Z F) → ((x : X) → h x ≡ (f x >>= g)) → (r >>= h) ≡ ((r >>= f) >>= g)
both_steps (Ok x) f g h same = same x
both_steps (Err e) f g h same = refl

-- the fields of a path are read first
fields_first : (column : ℕ) (tables : Tables) (at : At) → measured_path_from column tables at ≡ (path_fields_from (samples_in tables) (frames_in tables) at >>= λ r. (new_path column r.0.1 r.0.0 tables >>= λ paths. Ok (paths, r.1)))
unfolding measured_path_from path_fields_from
fields_first column tables at =
    both_steps (word_by (is_count (samples_in tables)) at) _ _ _
    (λ a. both_steps (word_by is_end_number a.1) _ _ _
    (λ b. both_steps (word_by (is_length (frames_in tables)) b.1) _ _ _
    (λ d. both_steps (times (adding measured_frame_from) d.0 0 [] d.1) _ _ _ (λ f. refl))))

-- the columns with a column's paths
abbrev pub put_in : Tables → ℕ → List Counted × At → Tables × At
put_in tables column r = (slice_set tables column r.0, r.1)

module _ (tables : Tables) (column : ℕ) (own : column < length tables) (empty : of_column tables column ≡ []) where
  abbrev with_own : List Counted → Tables
  with_own paths = slice_set tables column paths

  own_is : (paths : List Counted) → of_column (with_own paths) column ≡ paths
  own_is paths = get_or-set_same tables column paths [] own

  own_more : (paths : List Counted) (c : Counted) → with_path (with_own paths) column c ≡ with_own (paths ++ c ∷ [])
  own_more paths c = set-set tables column paths (of_column (with_own paths) column ++ c ∷ []) ∙ ap (λ (l : List Counted). with_own (l ++ c ∷ [])) (own_is paths)

  put_new : (paths : List Counted) (r : (Counted × ℕ) × At) → (new_path column r.0.1 r.0.0 (with_own paths) >>= λ all. Ok (all, r.1)) ≡ viewed (put_in tables column) (with_new paths r)
  put_new paths r =
      ap (λ (l : List Counted). (cond (has_path r.0.0.path l) (Err (fault_at r.0.1)) (Ok (with_path (with_own paths) column r.0.0)) >>= λ all. Ok (all, r.1))) (own_is paths)
      ∙ ap (λ (t : Tables). (cond (has_path r.0.0.path paths) (Err (fault_at r.0.1)) (Ok t) >>= λ all. Ok (all, r.1))) (own_more paths r.0.0)
      ∙ elim (has_path r.0.0.path paths) as (λ b. (cond b (Err (fault_at r.0.1)) (Ok (with_own (paths ++ r.0.0 ∷ []))) >>= λ all. Ok (all, r.1)) ≡ viewed (put_in tables column) (cond b (Err (fault_at r.0.1)) (Ok (paths ++ r.0.0 ∷ [], r.1)))) [
        | true ↦ refl
        | false ↦ refl
      ]

  after_fields : (paths : List Counted) (o : MeasureRead (Counted × ℕ)) → (o >>= λ r. (new_path column r.0.1 r.0.0 (with_own paths) >>= λ all. Ok (all, r.1))) ≡ viewed (put_in tables column) (o >>= λ r. with_new paths r)
  after_fields paths (Ok r) = put_new paths r
  after_fields paths (Err e) = refl

  path_in_column : (paths : List Counted) (at : At) → measured_path_from column (with_own paths) at ≡ viewed (put_in tables column) (column_path_from (samples_in tables) (frames_in tables) paths at)
  unfolding column_path_from
  path_in_column paths at =
      let samples : samples_in (with_own paths) ≡ samples_in tables + samples_of paths = put_samples tables (with_own paths) column paths own empty refl in
      let frames : frames_in (with_own paths) ≡ frames_in tables + frames_of_all paths = put_frames tables (with_own paths) column paths own empty refl in
      fields_first column (with_own paths) at
      ∙ (λ i. path_fields_from (samples i) (frames i) at >>= λ r. (new_path column r.0.1 r.0.0 (with_own paths) >>= λ all. Ok (all, r.1)))
      ∙ after_fields paths (path_fields_from (samples_in tables + samples_of paths) (frames_in tables + frames_of_all paths) at)

  after_path : (n i : ℕ) → ((paths : List Counted) (at : At) → times (λ i. measured_path_from column) n (i + 1) (with_own paths) at ≡ viewed (put_in tables column) (times (λ i. column_path_from (samples_in tables) (frames_in tables)) n (i + 1) paths at))
      → (o : MeasureRead (List Counted)) → (viewed (put_in tables column) o >>= λ r. times (λ i. measured_path_from column) n (i + 1) r.0 r.1) ≡ viewed (put_in tables column) (o >>= λ r. times (λ i. column_path_from (samples_in tables) (frames_in tables)) n (i + 1) r.0 r.1)
  after_path n i rest (Ok r) = rest r.0 r.1
  after_path n i rest (Err e) = refl

  paths_in_column : (n i : ℕ) (paths : List Counted) (at : At) → times (λ i. measured_path_from column) n i (with_own paths) at ≡ viewed (put_in tables column) (times (λ i. column_path_from (samples_in tables) (frames_in tables)) n i paths at)
  unfolding times
  paths_in_column zero i paths at = refl
  paths_in_column (suc n) i paths at =
      ap (λ (o : MeasureRead Tables). o >>= λ r. times (λ i. measured_path_from column) n (i + 1) r.0 r.1) (path_in_column paths at)
      ∙ after_path n i (paths_in_column n (i + 1)) (column_path_from (samples_in tables) (frames_in tables) paths at)

  none_yet : with_own [] ≡ tables
  none_yet = ap (slice_set tables column) (sym empty) ∙ set-get_or tables column []

  -- the paths of a column after their number
  column_is : (at next : At) (n samples frames : ℕ) → word_from at ≡ Ok (n, next) → samples ≡ samples_in tables → frames ≡ frames_in tables → column_from column tables at ≡ viewed (put_in tables column) (column_paths_from samples frames n next)
  unfolding column_from
  column_is at next n samples frames read samples_are frames_are =
      let one : column_from column tables at ≡ times (λ i. measured_path_from column) n 0 tables next = rw read refl in
      one ∙ ap (λ (t : Tables). times (λ i. measured_path_from column) n 0 t next) (sym none_yet) ∙ paths_in_column n 0 [] next
      ∙ (λ j. viewed (put_in tables column) (times (λ i. column_path_from (sym samples_are j) (sym frames_are j)) n 0 [] next))

  pub column_read : (at next after : At) (n samples frames : ℕ) (paths : List Counted) → word_from at ≡ Ok (n, next) → samples ≡ samples_in tables → frames ≡ frames_in tables → column_paths_from samples frames n next ≡ Ok (paths, after) → column_from column tables at ≡ Ok (slice_set tables column paths, after)
  column_read at next after n samples frames paths read samples_are frames_are is = column_is at next n samples frames read samples_are frames_are ∙ ap (viewed (put_in tables column)) is

  pub column_fails : (at next : At) (n samples frames : ℕ) (fail : Fail MeasureFault) → word_from at ≡ Ok (n, next) → samples ≡ samples_in tables → frames ≡ frames_in tables → FailsBy fail (column_paths_from samples frames n next) → FailsBy fail (column_from column tables at)
  column_fails at next n samples frames (fails.Memory memory) read samples_are frames_are is = tt
  column_fails at next n samples frames (fails.Fault fault) read samples_are frames_are is = column_is at next n samples frames read samples_are frames_are ∙ ap (viewed (put_in tables column)) is

-- ---- the columns that are read next

abbrev pub AreOpen : ℕ → ℕ → Tables → Type 0
AreOpen columns column tables = (length tables ≡ columns) × ((k : ℕ) → column ≤ k → of_column tables k ≡ [])

none_at : (columns k : ℕ) → of_column (replicate columns []) k ≡ []
none_at zero k = refl
none_at (suc columns) zero = refl
none_at (suc columns) (suc k) = none_at columns k

pub open_first : (columns : ℕ) (tables : Tables) → tables ≡ replicate columns [] → AreOpen columns 0 tables
open_first columns tables is = (ap (λ (t : Tables). length t) is ∙ length-replicate columns [], λ k le. ap (λ (t : Tables). of_column t k) is ∙ none_at columns k)

pub open_next : (columns column : ℕ) (tables new : Tables) (own : List Counted) → new ≡ slice_set tables column own → AreOpen columns column tables → AreOpen columns (column + 1) new
open_next columns column tables new own is are = (
  ap (λ (t : Tables). length t) is ∙ length-set tables column own ∙ are.0,
  λ k le. ap (λ (t : Tables). of_column t k) is ∙ get_or-set_other tables column k own [] (λ e. absurd (omega (arith, le, e))) ∙ are.1 k (omega (arith, le)),
)

-- ---- the sums of all columns
