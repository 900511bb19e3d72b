-- A trace that grows by the samples of a run.
use Rattle.std.proofs.Common.{◌≡◌, ℕ, ◌+◌, ◌<◌, ◌≤◌, List, [], ◌∷◌, ◌++◌, length, map, sum_by, All, Ok, refl, sym, ap, subst, ◌∙◌, arith}
use Rattle.std.specs.List.{range_with_len}
use Rattle.std.proofs.lemmas.List.{get_or-replicate, length-append, length-replicate, same_lists}
use Rattle.std.proofs.lemmas.List.Elements.{All-head, All-map, All-tail, All-weaker}
use Rattle.std.proofs.lemmas.List.Sums.{sum_by-cons}
use Rattle.prof_bytes.specs.declared.fail.Fail.{Fail}
use Rattle.prof_bytes.specs.Outcome.{FailsBy}
use Rattle.rv_run.specs.Progress.{to_come}
use Rattle.sample_clock.specs.declared.clock.Sample.{Sample}
use Rattle.sample_clock.specs.Samples.{Paths}
use Rattle.sample_clock.specs.Clock.{IsOver, Sampling, samples_to_come}
use Rattle.scope_types.specs.declared.frame.Counted.{Counted}
use Rattle.scope_types.specs.Distinct.{ColumnRaw, distinct, frames_in, samples_in}
use Rattle.scope_types.specs.Limits.{most_frames_in_all, most_samples}
use Rattle.thread_cct.specs.Adding.{count_sample}
use Rattle.thread_cct.proofs.Tables.{distinct_more, samples_more}
use Rattle.trace_lines.specs.Traces.{Traced, idle_hart, idle_harts, samples_traced, with_harts}
use Rattle.command_line.specs.declared.status.InputFault.{InputFault}
use Rattle.program_run.specs.Samples.{column_raw, few_samples, within_frames}
use Rattle.program_run.specs.Collecting.{AllCounted, GivesOne, raws_to_come}
use Rattle.program_run.specs.private.Tracing.{AllTraced, IsOwn, unfinished}
use Rattle.program_run.proofs.Collecting.{SoFar, done_all, so_far_first, so_far_more, so_far_over, so_far_refused}
use Rattle.program_run.proofs.SamplesTraced.{at_unfinished, long_unfinished, own_column}

-- the samples so far were counted, as if by their columns, and the trace is of just these
pub record TracedSoFar (path_of : Paths) (t0 t : Traced) (start now : Sampling) : Type 0 where
  pub ccts : List (List Counted)
  pub sofar : SoFar path_of (length t0.harts) 1 start now ccts
  pub traced : t ≡ with_harts t0 (unfinished (length t0.harts) sofar.done)
  pub count : samples_traced t.harts ≡ length sofar.done
  pub left : All (IsOwn (length t0.harts)) (samples_to_come path_of now)

-- there are none at the start
no_samples : (harts : ℕ) → idle_harts harts ≡ unfinished harts []
no_samples harts =
    same_lists (idle_harts harts) (unfinished harts []) (length-replicate harts idle_hart ∙ sym (long_unfinished harts []))
    (λ k d less.
    let within : k < harts = (let l = less in let long = length-replicate harts idle_hart in omega (arith, l, long)) in
    get_or-replicate harts k idle_hart d within ∙ sym (at_unfinished harts k [] d within))

none_of : (columns : List ℕ) → samples_in (map (λ (column : ℕ). []) columns) ≡ 0
none_of [] = refl
none_of (column ∷ columns) =
    let first = sum_by-cons (sum_by (λ (c : Counted). c.count)) [] (map (λ (column : ℕ). []) columns) in
    let rest = none_of columns in
    omega (arith, first, rest)

none_in : (columns : ℕ) → samples_in (distinct columns []) ≡ 0
unfolding distinct
none_in columns = none_of (range_with_len 0 columns)

pub traced_first : (path_of : Paths) (t : Traced) (start : Sampling) → start.met ≡ 0 → length start.events ≡ 1 → t.harts ≡ idle_harts (length t.harts) → samples_traced t.harts ≡ 0
    → All (IsOwn (length t.harts)) (samples_to_come path_of start) → TracedSoFar path_of t t start start
unfolding so_far_first
traced_first path_of t start none same idle empty own =
    record {
      ccts = distinct (length t.harts) [];
      sofar = so_far_first path_of (length t.harts) 1 start (distinct (length t.harts) []) none same (columns_own path_of (length t.harts) start same own) refl (none_in (length t.harts));
      traced = ap (with_harts t) (idle ∙ no_samples (length t.harts));
      count = empty;
      left = own;
    }
  where
    -- the columns are those of the harts
    columns_own : (path_of : Paths) (harts : ℕ) (s : Sampling) → length s.events ≡ 1 → All (IsOwn harts) (samples_to_come path_of s) → All (λ r. r.column < harts) (raws_to_come path_of s)
    columns_own path_of harts s one all =
        subst (λ (n : ℕ). All (λ (r : ColumnRaw). r.column < harts) (map (column_raw n) (samples_to_come path_of s))) (sym one)
        (All-map (λ (r : ColumnRaw). r.column < harts) (column_raw 1) (samples_to_come path_of s)
        (All-weaker (IsOwn harts) (λ (x : Sample). (column_raw 1 x).column < harts) (λ x is. (let column = own_column harts x is in let hart = is.hart in omega (arith, column, hart))) (samples_to_come path_of s) all))

module _ (path_of : Paths) (t0 t : Traced) (start old new : Sampling) (so : TracedSoFar path_of t0 t start old) where
  long : length t.harts ≡ length t0.harts
  long = ap (λ (u : Traced). length u.harts) so.traced ∙ long_unfinished (length t0.harts) so.sofar.done

  pub traced_harts : t.harts ≡ unfinished (length t.harts) so.sofar.done
  traced_harts = ap (λ (u : Traced). u.harts) so.traced ∙ ap (λ (n : ℕ). unfinished n so.sofar.done) (sym long)

  pub traced_fits : frames_in (distinct (length t.harts) so.sofar.done) ≤ most_frames_in_all
  traced_fits =
      let fits = so.sofar.fits in
      let same = ap frames_in so.sofar.counts in
      let here = ap (λ (n : ℕ). frames_in (distinct n so.sofar.done)) long in
      omega (arith, fits, same, here)

  module _ (sample : Sample) (given : GivesOne path_of sample old new) where
    both : All (IsOwn (length t0.harts)) (sample ∷ samples_to_come path_of new)
    both = subst (All (IsOwn (length t0.harts))) given.given.to_come so.left

    pub traced_own : IsOwn (length t.harts) sample
    traced_own = subst (λ (n : ℕ). IsOwn n sample) (sym long) (All-head (IsOwn (length t0.harts)) sample (samples_to_come path_of new) both)

    pub traced_room : samples_traced t.harts < most_samples
    traced_room =
        let count = so.count in
        let met = so.sofar.met in
        let one = given.given.met in
        let few = given.given.few in
        omega (arith, count, met, one, few)

    -- with this sample
    pub traced_more : (t' : Traced) → length (distinct (length t0.harts) so.sofar.done) ≡ length t0.harts → (to_come new.machine).final ≡ (to_come old.machine).final
        → within_frames (distinct (length t.harts) (so.sofar.done ++ column_raw 1 sample ∷ [])) ≡ Ok (distinct (length t.harts) (so.sofar.done ++ column_raw 1 sample ∷ []))
        → t' ≡ with_harts t (unfinished (length t.harts) (so.sofar.done ++ column_raw 1 sample ∷ [])) → samples_traced t'.harts ≡ samples_traced t.harts + 1
        → TracedSoFar path_of t0 t' start new
    unfolding so_far_more
    traced_more t' many last within is count =
        let own : IsOwn (length t0.harts) sample = All-head (IsOwn (length t0.harts)) sample (samples_to_come path_of new) both in
        let more : List ColumnRaw = so.sofar.done ++ column_raw 1 sample ∷ [] in
        let below : (column_raw 1 sample).column < length t0.harts = (let column = own_column (length t0.harts) sample own in let hart = own.hart in omega (arith, column, hart)) in
        let ccts_long : length so.ccts ≡ length t0.harts = ap (λ (ts : List (List Counted)). length ts) so.sofar.counts ∙ many in
        let fine : within_frames (distinct (length so.ccts) more) ≡ Ok (distinct (length t0.harts) more) =
        subst (λ (n : ℕ). within_frames (distinct n more) ≡ Ok (distinct (length t0.harts) more)) (sym ccts_long)
        (subst (λ (n : ℕ). within_frames (distinct n more) ≡ Ok (distinct n more)) long within) in
        let one : samples_in (distinct (length t0.harts) more) ≡ samples_in so.ccts + 1 =
        samples_more so.ccts (distinct (length t0.harts) more) (column_raw 1 sample) (omega (arith, below, ccts_long))
        (sym (distinct_more (length t0.harts) so.sofar.done (column_raw 1 sample) below)
        ∙ sym (ap (λ (ts : List (List Counted)). count_sample ts (column_raw 1 sample)) so.sofar.counts)) in
        record {
          ccts = distinct (length t0.harts) more;
          sofar = so_far_more path_of (length t0.harts) 1 start old new so.ccts so.sofar sample given many (distinct (length t0.harts) more) last fine one;
          traced = is ∙ ap (λ (u : Traced). with_harts u (unfinished (length t.harts) more)) so.traced ∙ ap (λ (n : ℕ). with_harts t0 (unfinished n more)) long;
          count = (let was = so.count in let parts = length-append so.sofar.done (column_raw 1 sample ∷ []) in omega (arith, count, was, parts));
          left = All-tail (IsOwn (length t0.harts)) sample (samples_to_come path_of new) both;
        }

    -- too many frames with it
    pub traced_refused : (fail : Fail InputFault) → length (distinct (length t0.harts) so.sofar.done) ≡ length t0.harts
        → FailsBy fail (within_frames (distinct (length t.harts) (so.sofar.done ++ column_raw 1 sample ∷ [])))
        → ((more : List ColumnRaw) → All (λ s. s.column < length t0.harts) more → frames_in (distinct (length t0.harts) (so.sofar.done ++ column_raw 1 sample ∷ [])) ≤ frames_in (distinct (length t0.harts) ((so.sofar.done ++ column_raw 1 sample ∷ []) ++ more)))
        → FailsBy fail (few_samples (length t0.harts) (raws_to_come path_of start))
    traced_refused fail many refused grow =
        let ccts_long : length so.ccts ≡ length t0.harts = ap (λ (ts : List (List Counted)). length ts) so.sofar.counts ∙ many in
        so_far_refused path_of (length t0.harts) 1 start old new so.ccts so.sofar sample given many fail
        (subst (λ (n : ℕ). FailsBy fail (within_frames (distinct n (so.sofar.done ++ column_raw 1 sample ∷ [])))) (long ∙ sym ccts_long) refused) grow

  -- all of them
  pub traced_over : IsOver path_of old new → (to_come new.machine).final ≡ (to_come old.machine).final → AllTraced path_of t0 t start new
  traced_over over last =
      let all : AllCounted path_of (length t0.harts) so.ccts start new = so_far_over path_of (length t0.harts) 1 start old new so.ccts so.sofar over last in
      let done : raws_to_come path_of start ≡ so.sofar.done = done_all path_of (length t0.harts) 1 start old new so.ccts so.sofar over in
      record {
        few = all.few;
        traced = so.traced ∙ ap (λ (l : List ColumnRaw). with_harts t0 (unfinished (length t0.harts) l)) (sym done);
        ended = all.ended;
      }
