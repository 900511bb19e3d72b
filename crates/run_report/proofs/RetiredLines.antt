-- The lines on a run whose only event is retired, by the numbers of samples of its harts.
use Rattle.std.proofs.Common.{◌≡◌, ℕ, ◌<◌, List, [], ◌++◌, length, sum, sym, ap, ◌∙◌, arith}
use Rattle.std.specs.Prelude.{slice_index}
use Rattle.scope_types.specs.Distinct.{ColumnRaw}
use Rattle.scope_types.specs.Events.{retired_every}
use Rattle.rv_run.specs.State.{MachineState}
use Rattle.run_report.specs.Report.{closed, hart_lines, run_text, samples_by_hart, total_line}
use Rattle.run_report.proofs.HartLines.{lines_same}

pub retired_is : (period harts : ℕ) (final : MachineState) (counts : List ℕ) (samples : List ColumnRaw) → length counts ≡ harts → length samples ≡ sum counts
    → ((hart : ℕ) → hart < length counts → slice_index counts hart ≡ samples_by_hart 1 samples hart)
    → closed final.output ++ total_line harts period (sum counts) ++ hart_lines harts final (slice_index counts) ≡ run_text (retired_every period) harts final samples
retired_is period harts final counts samples long many each =
    ap (λ (n : ℕ). closed final.output ++ total_line harts period n ++ hart_lines harts final (slice_index counts)) (sym many)
    ∙ ap (λ (l : List ℕ). closed final.output ++ total_line harts period (length samples) ++ l)
    (lines_same harts final (slice_index counts) (samples_by_hart 1 samples) (λ hart own. each hart (omega (arith, own, long))))

-- the same, put part by part into an empty text
pub retired_put : (period harts : ℕ) (final : MachineState) (counts : List ℕ) (samples : List ColumnRaw) (output : List ℕ) (all : ℕ) (start first second third : List ℕ) → harts ≡ length final.harts → length counts ≡ harts
    → length samples ≡ sum counts → ((hart : ℕ) → hart < length counts → slice_index counts hart ≡ samples_by_hart 1 samples hart) → output ≡ final.output → all ≡ sum counts
    → start ≡ [] → first ≡ start ++ closed output → second ≡ first ++ total_line harts period all → third ≡ second ++ hart_lines harts final (slice_index counts)
    → third ≡ run_text (retired_every period) (length final.harts) final samples
retired_put period harts final counts samples output all start first second third own long many each put_is all_is none one two three =
    let lines = hart_lines harts final (slice_index counts) in
    three ∙ (λ i. two i ++ lines) ∙ (λ i. (one i ++ total_line harts period all) ++ lines) ∙ (λ i. ((none i ++ closed (put_is i)) ++ total_line harts period (all_is i)) ++ lines)
    ∙ retired_is period harts final counts samples long many each
    ∙ ap (λ (n : ℕ). run_text (retired_every period) n final samples) own
