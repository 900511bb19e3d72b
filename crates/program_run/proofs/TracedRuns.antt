-- A run whose samples were traced.
use Rattle.std.proofs.Common.{◌≡◌, ℕ, ◌/◌, ◌<◌, ◌≤◌, ◌==◌, List, length, map, count_by, All, Result, Ok, refl, sym, ap, subst, ◌∙◌, arith}
use Rattle.std.specs.List.{range_with_len}
use Rattle.std.proofs.lemmas.List.Elements.{All-contains, All-weaker}
use Rattle.std.proofs.lemmas.List.FromFn.{length-map-range_with_len}
use Rattle.prof_bytes.specs.declared.fail.Fail.{Fail}
use Rattle.prof_bytes.specs.Outcome.{◌>>=◌, FailsBy}
use Rattle.elf_image.specs.Image.{ProgramImage}
use Rattle.rv_run.specs.declared.schedule.Slice.{Slice}
use Rattle.rv_run.specs.Progress.{IsFresh, to_come}
use Rattle.rv_run.specs.Run.{Instant, run_slices}
use Rattle.rv_run.specs.State.{MachineState, first_hart, first_state, hart_of}
use Rattle.sample_clock.specs.declared.clock.Sample.{Sample}
use Rattle.sample_clock.specs.Samples.{IsSampleOf, Paths, samples}
use Rattle.sample_clock.specs.Clock.{Sampling, samples_to_come}
use Rattle.scope_types.specs.Distinct.{ColumnRaw, raws_of}
use Rattle.scope_types.specs.Events.{retired_every}
use Rattle.trace_lines.specs.Traces.{AreFinished, HartTrace, Traced, hart_in, idle_hart, idle_harts, with_harts}
use Rattle.command_line.specs.declared.status.InputFault.{InputFault}
use Rattle.program_run.specs.Measured.{Measured, measured_run}
use Rattle.program_run.specs.Samples.{column_raw, few_samples, run_columns, sampled}
use Rattle.program_run.specs.commands.Trace.{hart_traced, trace_of}
use Rattle.program_run.specs.Collecting.{IsStart, raws_to_come}
use Rattle.program_run.specs.private.Tracing.{AllTraced, IsOwn, TracesRun, finished_in, unfinished}
use Rattle.program_run.proofs.Addresses.{OfInstructions}
use Rattle.program_run.proofs.Counted.{all_to_come, measured_of, own_samples, refused_count}
use Rattle.program_run.proofs.FinishedHarts.{traced_finished}
use Rattle.program_run.proofs.HartSamples.{column_counted, raws_counted}
use Rattle.program_run.proofs.SamplesTraced.{at_unfinished, long_unfinished}

-- what sample_clock's law says
abbrev pub RetiredCounted : Type 0
RetiredCounted = (path_of : Paths) (period : ℕ) (slices : List Slice) (s : MachineState) (hart : ℕ) → 1 ≤ period → IsFresh s → hart < length s.harts
    → All (λ i. i.moment.hart < length s.harts) (run_slices slices s).instants
    → count_by (λ x. x.hart == hart) (samples path_of (retired_every period) (run_slices slices s).instants) ≡ (hart_of (run_slices slices s).final hart).retired / period

-- a trace that has no samples yet
abbrev pub started : ℕ → ℕ → ℕ → ℕ → Traced
started file_length entry period harts = record { length = file_length; entry = entry; period = period; harts = idle_harts harts }

-- there is a column for each hart
pub own_columns : (period harts : ℕ) → run_columns (retired_every period) harts ≡ harts
own_columns period harts = omega arith

-- the machine that a run begins with has the schedule's harts
pub first_long : (image : ProgramImage) (harts : ℕ) (input : List ℕ) → length (first_state image harts input).harts ≡ harts
first_long image harts input = length-map-range_with_len (first_hart image.entry harts) 0 harts

-- each sample is of a hart of the run, and of its only event
each_own : (path_of : Paths) (period harts : ℕ) (instants : List Instant) (s : Sample) → All (λ i. i.moment.hart < harts) instants → IsSampleOf path_of (retired_every period) instants s → IsOwn harts s
each_own path_of period harts instants s within is =
    let own : is.instant.moment.hart < harts = All-contains (λ (i : Instant). i.moment.hart < harts) instants is.instant within is.own in
    let event = is.event in
    record {
      hart = subst (λ (q : Sample). q.hart < harts) (sym is.is) own;
      event = omega (arith, event);
    }

pub samples_own : OfInstructions → (path_of : Paths) (period harts : ℕ) (instants : List Instant) → All (λ i. i.moment.hart < harts) instants → All (IsOwn harts) (samples path_of (retired_every period) instants)
samples_own each path_of period harts instants within =
    All-weaker (IsSampleOf path_of (retired_every period) instants) (IsOwn harts) (λ s is. each_own path_of period harts instants s within is) (samples path_of (retired_every period) instants) (each path_of (retired_every period) instants)

-- the raw paths of a hart's samples are as many as periods are in the instructions that it retired
pub hart_counted : OfInstructions → RetiredCounted → (path_of : Paths) (period : ℕ) (slices : List Slice) (s : MachineState) (hart : ℕ) → 1 ≤ period → IsFresh s → hart < length s.harts
    → All (λ i. i.moment.hart < length s.harts) (run_slices slices s).instants
    → length (raws_of (sampled path_of (retired_every period) (run_slices slices s)) hart) ≡ (hart_of (run_slices slices s).final hart).retired / period
hart_counted each counted path_of period slices s hart some fresh own within =
    let all : List Sample = samples path_of (retired_every period) (run_slices slices s).instants in
    raws_counted (map (column_raw 1) all) hart
    ∙ column_counted hart all (All-weaker (IsOwn (length s.harts)) (λ (x : Sample). x.event ≡ 0) (λ x is. is.event) all (samples_own each path_of period (length s.harts) (run_slices slices s).instants within))
    ∙ counted path_of period slices s hart some fresh own within

module _ (path_of : Paths) (period harts : ℕ) (start : Sampling) (is : IsStart (retired_every period) start) where
  -- the samples that are to come are of these harts
  pub own_to_come : OfInstructions → All (λ i. i.moment.hart < harts) (to_come start.machine).instants → All (IsOwn harts) (samples_to_come path_of start)
  own_to_come each within = subst (All (IsOwn harts)) (sym (is.all path_of)) (samples_own each path_of period harts (to_come start.machine).instants within)

  -- of a trace that has none yet
  module _ (t : Traced) (long : length t.harts ≡ harts) where
    pub refused_trace : (fail : Fail InputFault) → FailsBy fail (few_samples (length t.harts) (raws_to_come path_of start)) → FailsBy fail (measured_run path_of (retired_every period) harts (to_come start.machine))
    refused_trace fail many =
        refused_count path_of (retired_every period) harts start is fail
        (subst (λ (n : ℕ). FailsBy fail (few_samples n (raws_to_come path_of start))) (long ∙ sym (own_columns period harts)) many)

    module _ (traced : Traced) (new : Sampling) (all : AllTraced path_of t traced start new) where
      traced_long : length traced.harts ≡ harts
      traced_long = ap (λ (u : Traced). length u.harts) all.traced ∙ long_unfinished (length t.harts) (raws_to_come path_of start) ∙ long

      -- as many harts as the machine has
      pub traced_as_many : harts ≡ length (to_come start.machine).final.harts → length traced.harts ≡ length new.machine.state.harts
      traced_as_many ends = traced_long ∙ ends ∙ ap (λ (s : MachineState). length s.harts) (sym all.ended)

      -- each has the samples that its instructions give
      pub traced_counted : OfInstructions → RetiredCounted → 1 ≤ period → IsFresh start.machine.state → harts ≡ length start.machine.state.harts → All (λ i. i.moment.hart < harts) (to_come start.machine).instants → t.period ≡ period
          → (hart : ℕ) → hart < length traced.harts → length (hart_in traced.harts hart).samples ≡ (hart_of new.machine.state hart).retired / traced.period
      traced_counted each counted some fresh many within same hart below =
          let own : hart < length t.harts = (let size = traced_long in omega (arith, below, size, long)) in
          let here : hart < length start.machine.state.harts = (let size = traced_long in omega (arith, below, size, many)) in
          ap (λ (u : Traced). length (hart_in u.harts hart).samples) all.traced
          ∙ ap (λ (h : HartTrace). length h.samples) (at_unfinished (length t.harts) hart (raws_to_come path_of start) idle_hart own)
          ∙ ap (λ (l : List ColumnRaw). length (raws_of l hart)) (all_to_come path_of (retired_every period) harts start is)
          ∙ hart_counted each counted path_of period start.machine.left start.machine.state hart some fresh here
          (subst (λ (n : ℕ). All (λ (i : Instant). i.moment.hart < n) (to_come start.machine).instants) many within)
          ∙ ap (λ (s : MachineState). (hart_of s hart).retired / period) (sym all.ended)
          ∙ ap (λ (n : ℕ). (hart_of new.machine.state hart).retired / n) (sym (ap (λ (u : Traced). u.period) all.traced ∙ same))

      -- the trace is that of the run
      pub traced_run : (image : ProgramImage) → OfInstructions → All (λ i. i.moment.hart < harts) (to_come start.machine).instants → harts ≡ length (to_come start.machine).final.harts
          → t ≡ started (length image.file) image.entry period harts
          → (last : Traced) → last ≡ with_harts traced (finished_in new.machine.state traced.harts) → AreFinished last
          → TracesRun image period (Ok (record { trace = last; samples = new })) (measured_run path_of (retired_every period) harts (to_come start.machine))
      unfolding measured_run
      traced_run image each within ends first last noted finished =
          let raws : List ColumnRaw = raws_to_come path_of start in
          let m : Measured = measured_of path_of (retired_every period) harts start is raws in
          let few : few_samples (run_columns (retired_every period) harts) raws ≡ Ok raws = subst (λ (n : ℕ). few_samples n raws ≡ Ok raws) (long ∙ sym (own_columns period harts)) all.few in
          let harts_are : last ≡ with_harts t (finished_in (to_come start.machine).final (unfinished (length t.harts) raws)) =
          noted ∙ ap (λ (u : Traced). with_harts u (finished_in new.machine.state u.harts)) all.traced
          ∙ ap (λ (s : MachineState). with_harts t (finished_in s (unfinished (length t.harts) raws))) all.ended in
          let as_run : last ≡ trace_of image period m =
          harts_are
          ∙ ap (λ (n : ℕ). with_harts t (finished_in m.final (unfinished n raws))) long
          ∙ ap (with_harts t) (traced_finished m 0 harts)
          ∙ ap (λ (u : Traced). with_harts u (map (hart_traced m) (range_with_len 0 harts))) first in (
            m,
            ap (λ (l : List ColumnRaw). few_samples (run_columns (retired_every period) harts) l >>= λ samples. Ok (measured_of path_of (retired_every period) harts start is samples)) (sym (all_to_come path_of (retired_every period) harts start is))
                ∙ ap (λ (r : Result (List ColumnRaw) InputFault). r >>= λ samples. Ok (measured_of path_of (retired_every period) harts start is samples)) few,
            record {
              events = refl;
              trace = as_run;
              finished = finished;
              own = subst (λ (n : ℕ). All (λ (s : ColumnRaw). s.column < n) raws) (own_columns period harts) (own_samples path_of (retired_every period) harts start is each within);
              final = all.ended;
              ends = ends;
            },
          )
