-- The runs of a merge within their limits, and what is made of them.
use Rattle.std.proofs.Common.{◌≡◌, ℕ, ◌≤◌, nat_lt, false, List, length, All, Result, Ok, Err, refl, sym, ap, subst, ◌∙◌}
use Rattle.prof_bytes.specs.declared.fail.Fail.{Fail}
use Rattle.prof_bytes.specs.Outcome.{◌>>=◌, FailsBy}
use Rattle.elf_image.specs.Image.{ProgramImage}
use Rattle.measure_file.specs.Measurable.{AreMeasured}
use Rattle.scope_types.specs.declared.frame.Counted.{Counted}
use Rattle.scope_types.specs.declared.event.EventPeriod.{EventPeriod}
use Rattle.scope_types.specs.Columns.{columns_of}
use Rattle.scope_types.specs.Distinct.{frames_in, samples_in}
use Rattle.scope_types.specs.Limits.{most_frames_in_all, most_samples}
use Rattle.command_line.specs.declared.status.InputFault.{InputFault}
use Rattle.command_line.specs.declared.status.InputFault.TheVariants.{TooManyFrames}
use Rattle.program_run.specs.Samples.{within_counts, within_frames}
use Rattle.hpc_top.specs.commands.Merge.{KeptRun, all_tables, first_events, harts_of_runs, of_same_events, within_limits}
use Rattle.hpc_top.specs.commands.Prof.{attributed_code}
use Rattle.hpc_top.specs.private.Products.{limited_or}
use Rattle.program_run.proofs.Collecting.{at_most, tested_ok}
use Rattle.command_line.proofs.Faults.{fails_next}
use Rattle.hpc_top.proofs.KeptRuns.{IsKept, all_measured, counts_within, runs_columns_are}

pub refused_counts : (image : ProgramImage) (runs : List KeptRun) (fail : Fail InputFault) → FailsBy fail (within_counts (all_tables runs)) → FailsBy fail (limited_or image runs)
refused_counts image runs fail refused =
    fails_next (λ tables. attributed_code image (first_events runs) (harts_of_runs runs) tables) fail (within_limits runs) (fails_next (λ tables. within_frames tables) fail (within_counts (all_tables runs)) refused)

module _ (image : ProgramImage) (runs : List KeptRun) (few : samples_in (all_tables runs) ≤ most_samples) where
  limits_here : within_frames (all_tables runs) ≡ within_limits runs
  limits_here = sym (ap (λ (r : Result (List (List Counted)) InputFault). r >>= λ tables. within_frames tables) (counts_within (all_tables runs) few))

  pub refused_frames : (fail : Fail InputFault) → FailsBy fail (within_frames (all_tables runs)) → FailsBy fail (limited_or image runs)
  refused_frames fail refused =
      fails_next (λ tables. attributed_code image (first_events runs) (harts_of_runs runs) tables) fail (within_limits runs) (subst (FailsBy fail) limits_here refused)

  module _ (tables : List (List Counted)) (joined : within_frames (all_tables runs) ≡ Ok tables) where
    pub limited_is : limited_or image runs ≡ attributed_code image (first_events runs) (harts_of_runs runs) tables
    limited_is = ap (λ (r : Result (List (List Counted)) InputFault). r >>= λ tables. attributed_code image (first_events runs) (harts_of_runs runs) tables) (sym limits_here ∙ joined)

    tested : (nat_lt most_frames_in_all (frames_in (all_tables runs)) ≡ false) × (all_tables runs ≡ tables)
    tested = tested_ok (nat_lt most_frames_in_all (frames_in (all_tables runs))) TooManyFrames (all_tables runs) tables joined

    pub joined_measured : All IsKept runs → AreMeasured tables
    joined_measured kept = subst AreMeasured tested.1 (all_measured runs kept few (at_most most_frames_in_all (frames_in (all_tables runs)) tested.0))

    pub joined_columns : All IsKept runs → of_same_events runs ≡ Ok tt → length tables ≡ columns_of (length (first_events runs)) (harts_of_runs runs)
    joined_columns kept same = ap (λ (ts : List (List Counted)). length ts) (sym tested.1) ∙ runs_columns_are runs kept same
