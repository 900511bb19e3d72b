-- The lines on a run whose samples were counted.
use Rattle.std.proofs.Common.{◌≡◌, ℕ, ◌*◌, ◌/◌, ◌≤◌, ◌==◌, List, ◌++◌, length, ap, ◌∙◌, arith}
use Rattle.std.proofs.Math.Nat.{mul-div_cancel}
use Rattle.scope_types.specs.declared.event.EventPeriod.{EventPeriod}
use Rattle.scope_types.specs.declared.frame.Counted.{Counted}
use Rattle.scope_types.specs.Columns.{hart_of_column}
use Rattle.scope_types.specs.Distinct.{ColumnRaw, distinct, samples_in}
use Rattle.rv_run.specs.State.{MachineState}
use Rattle.run_report.specs.Report.{closed, hart_lines, run_line, run_text, samples_by_hart}
use Rattle.run_report.specs.private.Counted.{counted_text, hart_samples}
use Rattle.run_report.proofs.Columns.{EachCounted, where_counts}
use Rattle.run_report.proofs.HartLines.{lines_same}

pub counted_is : EachCounted → (events : List EventPeriod) (harts : ℕ) (final : MachineState) (ccts : List (List Counted)) (samples : List ColumnRaw) → ccts ≡ distinct (length ccts) samples → samples_in ccts ≡ length samples
    → counted_text events harts ccts final ≡ run_text events harts final samples
counted_is each events harts final ccts samples counts all =
    let lines : hart_lines harts final (hart_samples (length events) ccts) ≡ hart_lines harts final (samples_by_hart (length events) samples) =
    lines_same harts final (hart_samples (length events) ccts) (samples_by_hart (length events) samples) (λ hart own. where_counts each (λ column. hart_of_column (length events) column == hart) ccts samples counts all) in
    (λ i. closed final.output ++ run_line events harts (all i) ++ hart_lines harts final (hart_samples (length events) ccts))
    ∙ ap (λ (l : List ℕ). closed final.output ++ run_line events harts (length samples) ++ l) lines

-- the harts of columns
pub harts_of : (columns harts events : ℕ) → 1 ≤ events → columns ≡ harts * events → columns / events ≡ harts
harts_of columns harts events some are = ap (λ (n : ℕ). n / events) are ∙ mul-div_cancel harts (omega (arith, some))
