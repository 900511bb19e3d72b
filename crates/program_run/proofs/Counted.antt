-- A run whose samples were counted.
use Rattle.std.proofs.Common.{◌≡◌, ℕ, ◌*◌, ◌<◌, ◌≤◌, List, length, map, All, Result, Ok, refl, sym, ap, subst, ◌∙◌}
use Rattle.prof_bytes.specs.declared.fail.Fail.{Fail}
use Rattle.prof_bytes.specs.Outcome.{◌>>=◌, FailsBy}
use Rattle.rv_run.specs.Progress.{to_come}
use Rattle.rv_run.specs.State.{MachineState}
use Rattle.sample_clock.specs.Samples.{Paths, samples}
use Rattle.sample_clock.specs.Clock.{Sampling}
use Rattle.scope_types.specs.declared.event.EventPeriod.{EventPeriod}
use Rattle.scope_types.specs.declared.frame.Counted.{Counted}
use Rattle.scope_types.specs.Distinct.{ColumnRaw, distinct}
use Rattle.scope_types.specs.Limits.{most_harts}
use Rattle.command_line.specs.declared.status.InputFault.{InputFault}
use Rattle.program_run.specs.declared.counting.CountedRun.{CountedRun}
use Rattle.program_run.specs.Measured.{Measured, measured_run}
use Rattle.program_run.specs.Samples.{column_raw, few_samples, run_columns, sampled}
use Rattle.program_run.specs.Collecting.{AllCounted, IsStart, raws_to_come}
use Rattle.program_run.specs.Counting.{Counts, IsCount}
use Rattle.program_run.proofs.Addresses.{OfInstructions, samples_below}
use Rattle.command_line.proofs.Faults.{fails_next}

module _ (path_of : Paths) (events : List EventPeriod) (harts : ℕ) (start : Sampling) (is : IsStart events start) where
  -- all samples are to come
  pub all_to_come : raws_to_come path_of start ≡ sampled path_of events (to_come start.machine)
  all_to_come =
      ap (map (column_raw (length start.events))) (is.all path_of)
      ∙ ap (λ (es : List EventPeriod). map (column_raw (length es)) (samples path_of events (to_come start.machine).instants)) is.events

  -- and they are of the run's columns
  pub own_samples : OfInstructions → All (λ i. i.moment.hart < harts) (to_come start.machine).instants → All (λ s. s.column < run_columns events harts) (raws_to_come path_of start)
  own_samples each own =
      subst (All (λ (s : ColumnRaw). s.column < run_columns events harts)) (sym all_to_come) (samples_below each path_of events harts (to_come start.machine) own)

  abbrev pub measured_of : List ColumnRaw → Measured
  measured_of samples = record { events = events; harts = harts; samples = samples; final = (to_come start.machine).final }

  pub refused_count : (fail : Fail InputFault) → FailsBy fail (few_samples (run_columns events harts) (raws_to_come path_of start)) → FailsBy fail (measured_run path_of events harts (to_come start.machine))
  unfolding measured_run
  refused_count fail many =
      fails_next (λ samples. Ok (measured_of samples)) fail (few_samples (run_columns events harts) (sampled path_of events (to_come start.machine)))
      (subst (λ (all : List ColumnRaw). FailsBy fail (few_samples (run_columns events harts) all)) all_to_come many)

  pub counted_run : (ccts : List (List Counted)) (new : Sampling) → AllCounted path_of (run_columns events harts) ccts start new → length ccts ≡ run_columns events harts → 0 < harts → harts ≤ most_harts → harts ≡ length (to_come start.machine).final.harts
      → Counts events (Ok (record { harts = harts; ccts = ccts; samples = new })) (measured_run path_of events harts (to_come start.machine))
  unfolding measured_run
  counted_run ccts new counted many some few ends = (
    measured_of (raws_to_come path_of start),
    ap (λ (all : List ColumnRaw). few_samples (run_columns events harts) all >>= λ samples. Ok (measured_of samples)) (sym all_to_come)
        ∙ ap (λ (r : Result (List ColumnRaw) InputFault). r >>= λ samples. Ok (measured_of samples)) counted.few,
    record {
      same = refl;
      some = some;
      few = few;
      harts = refl;
      columns = many;
      counts = counted.counts;
      all = counted.all;
      own = counted.own;
      final = counted.ended;
      ends = ends;
    },
  )

-- a refusal of the same list of events
pub fails_with : {X : Type 0} (f : List EventPeriod → Result X InputFault) (es others : List EventPeriod) (fail : Fail InputFault) → es ≡ others → FailsBy fail (f es) → FailsBy fail (f others)
fails_with f es others fail same is = subst (λ (q : List EventPeriod). FailsBy fail (f q)) same is

-- what a counted run says of its tables
module _ (events : List EventPeriod) (m : Measured) (run : CountedRun) (count : IsCount events m run) where
  pub counts_own : run.ccts ≡ distinct (length run.ccts) m.samples
  counts_own = count.counts ∙ ap (λ (n : ℕ). distinct n m.samples) (sym count.columns)

  pub below_own : All (λ s. s.column < length run.ccts) m.samples
  below_own = subst (λ (n : ℕ). All (λ (s : ColumnRaw). s.column < n) m.samples) (sym count.columns) count.own

  pub harts_own : run.harts ≡ length run.samples.machine.state.harts
  harts_own = count.harts ∙ count.ends ∙ sym (ap (λ (s : MachineState). length s.harts) count.final)

  pub columns_own : length run.ccts ≡ length run.samples.machine.state.harts * length events
  columns_own = count.columns ∙ (λ i. (count.ends i) * length (count.same i)) ∙ ap (λ (s : MachineState). length s.harts * length events) (sym count.final)
