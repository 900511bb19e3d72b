-- How many samples each hart of a traced run has, as the lines on the run ask for them.
use Rattle.std.proofs.Common.{◌≡◌, ℕ, ◌/◌, ◌<◌, ◌≤◌, ◌==◌, List, length, map, count_by, sum, sym, ap, ◌∙◌, arith}
use Rattle.std.specs.List.{range_with_len}
use Rattle.std.specs.Prelude.{slice_index}
use Rattle.std.proofs.lemmas.List.{length-map}
use Rattle.std.proofs.lemmas.List.FromFn.{get_or-map-range_with_len, length-map-range_with_len}
use Rattle.std.proofs.lemmas.List.Sums.{sum-map}
use Rattle.std.proofs.lemmas.Simd.{map-map}
use Rattle.elf_image.specs.Image.{ProgramImage}
use Rattle.rv_run.specs.State.{MachineState}
use Rattle.run_report.specs.Report.{samples_by_hart}
use Rattle.scope_types.specs.Distinct.{ColumnRaw, raws_of}
use Rattle.trace_lines.specs.Traces.{HartTrace, IsTrace, Traced}
use Rattle.scope_types.specs.Limits.{most_samples}
use Rattle.program_run.specs.declared.tracing.TracedRun.{TracedRun}
use Rattle.program_run.specs.Measured.{Measured}
use Rattle.program_run.specs.commands.Trace.{hart_traced}
use Rattle.program_run.specs.private.Tracing.{IsTraced}
use Rattle.program_run.proofs.HartSamples.{harts_counted, raws_counted}

abbrev pub samples_of : HartTrace → ℕ
samples_of h = length h.samples

-- the sum of the harts' numbers of samples
pub few_counts : (t : Traced) (counts : List ℕ) → counts ≡ map samples_of t.harts → IsTrace t → sum counts ≤ most_samples
few_counts t counts are is =
    let same = ap (λ (l : List ℕ). sum l) are in
    let all = sum-map samples_of t.harts in
    let few = is.samples in
    omega (arith, same, all, few)

-- a column of retired alone is a hart
column_hart : (samples : List ColumnRaw) (hart : ℕ) → count_by (λ s. s.column == hart) samples ≡ samples_by_hart 1 samples hart
column_hart samples hart = λ i. count_by (λ s. sym (whole s.column) i == hart) samples
  where
    whole : (n : ℕ) → n / 1 ≡ n
    whole n = omega arith

module _ (image : ProgramImage) (period : ℕ) (m : Measured) (run : TracedRun) (is : IsTraced image period m run) (counts : List ℕ) (are : counts ≡ map samples_of run.trace.harts) where
  of_harts : counts ≡ map samples_of (map (hart_traced m) (range_with_len 0 m.harts))
  of_harts = are ∙ ap (λ (t : Traced). map samples_of t.harts) is.trace

  of_columns : counts ≡ map (λ hart. length (raws_of m.samples hart)) (range_with_len 0 m.harts)
  of_columns = of_harts ∙ map-map samples_of (hart_traced m) (range_with_len 0 m.harts)

  long : length counts ≡ m.harts
  long = ap (λ (l : List ℕ). length l) of_columns ∙ length-map-range_with_len (λ (hart : ℕ). length (raws_of m.samples hart)) 0 m.harts

  -- one for each hart of the trace, and of the machine
  pub counts_many : length counts ≡ length run.trace.harts
  counts_many = ap (λ (l : List ℕ). length l) are ∙ length-map run.trace.harts samples_of

  pub counts_long : length counts ≡ length run.samples.machine.state.harts
  counts_long = long ∙ is.ends ∙ ap (λ (s : MachineState). length s.harts) (sym is.final)

  pub counts_all : length m.samples ≡ sum counts
  counts_all =
      sym (harts_counted m is.own) ∙ sym (sum-map samples_of (map (hart_traced m) (range_with_len 0 m.harts))) ∙ ap (λ (l : List ℕ). sum l) (sym of_harts)

  pub counts_each : (hart : ℕ) → hart < length counts → slice_index counts hart ≡ samples_by_hart 1 m.samples hart
  counts_each hart below =
      let own : hart < m.harts = (let size = long in omega (arith, below, size)) in
      ap (λ (l : List ℕ). slice_index l hart) of_columns
      ∙ get_or-map-range_with_len (λ (h : ℕ). length (raws_of m.samples h)) 0 m.harts hart hart 0 own (omega arith)
      ∙ raws_counted m.samples hart ∙ column_hart m.samples hart
