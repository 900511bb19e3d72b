use Rattle.std.proofs.Common.{◌≡◌, ◌≤◌, ◌∙◌, List, length, ap, ap₂, sym, subst, ℕ}
use Rattle.scope_types.specs.declared.event.EventPeriod.{EventPeriod}
use Rattle.scope_types.specs.Columns.{columns_of}
use Rattle.scope_types.specs.Distinct.{samples_in}
use Rattle.scope_types.specs.Limits.{most_samples}
use Rattle.hpc_top.specs.commands.Merge.{KeptRun, all_tables, first_events, harts_of_runs}
use Rattle.run_profile.specs.Merging.{AreRuns}
use Rattle.scope_types.specs.Events.{AreEvents}
use Rattle.hpc_top.proofs.KeptRuns.{first_are, kept_runs}
use Rattle.hpc_top.proofs.MergedRuns.{joined_columns, joined_measured}
use Rattle.hpc_top.proofs.commands.merge.merge_same.Goals as goal

pub attribute_code-requires-clause-runs : goal.attribute_code-requires-clause-runs
attribute_code-requires-clause-runs g c κs within =
    let harts : c.as_slice-2.result.now ≡ harts_of_runs c.args.runs.items = c.as_slice-2.ensures.value ∙ c.in_ok-harts.ensures ∙ ap harts_of_runs c.deref-3.ensures.value in
    subst AreRuns (sym harts) (kept_runs c.args.runs.items c.requires.some c.requires.few c.requires.measured)

pub attribute_code-requires-clause-columns : goal.attribute_code-requires-clause-columns
attribute_code-requires-clause-columns g c κs within =
    let events : c.as_slice.result.now ≡ first_events c.args.runs.items = c.as_slice.ensures.value ∙ c.in_ok-events.ensures ∙ c.first_events.ensures ∙ ap first_events c.deref-2.ensures.value in
    let harts : c.as_slice-2.result.now ≡ harts_of_runs c.args.runs.items = c.as_slice-2.ensures.value ∙ c.in_ok-harts.ensures ∙ ap harts_of_runs c.deref-3.ensures.value in
    let few : samples_in (all_tables c.args.runs.items) ≤ most_samples = subst (λ (rs : List KeptRun). samples_in (all_tables rs) ≤ most_samples) c.deref.ensures.value c.in_ok-check_samples.ensures.few in
    joined_columns c.args.image.now c.args.runs.items few c.in_ok-ccts.ccts c.in_ok-ccts.ensures c.requires.measured c.requires.same
    ∙ ap₂ (λ (es : List EventPeriod) (hs : List ℕ). columns_of (length es) hs) (sym events) (sym harts)

pub attribute_code-requires-clause-measured : goal.attribute_code-requires-clause-measured
attribute_code-requires-clause-measured g c κs within =
    let few : samples_in (all_tables c.args.runs.items) ≤ most_samples = subst (λ (rs : List KeptRun). samples_in (all_tables rs) ≤ most_samples) c.deref.ensures.value c.in_ok-check_samples.ensures.few in
    joined_measured c.args.image.now c.args.runs.items few c.in_ok-ccts.ccts c.in_ok-ccts.ensures c.requires.measured

pub attribute_code-requires-clause-events : goal.attribute_code-requires-clause-events
attribute_code-requires-clause-events g c κs within =
    let events : c.as_slice.result.now ≡ first_events c.args.runs.items = c.as_slice.ensures.value ∙ c.in_ok-events.ensures ∙ c.first_events.ensures ∙ ap first_events c.deref-2.ensures.value in
    subst AreEvents (sym events) (first_are c.args.runs.items c.requires.some c.requires.measured)
