use Rattle.std.proofs.Common.{◌≡◌, ◌∙◌, ◌<◌, ℕ, Ok, length, All, sym, ap, subst}
use Rattle.std.proofs.lemmas.Result.{err_from_is_err_and}
use Rattle.scope_find.specs.Found.{ProgramScopes, found_at}
use Rattle.scope_types.specs.Columns.{columns_of}
use Rattle.scope_types.specs.Distinct.{ColumnRaw, distinct}
use Rattle.scope_types.specs.Expansion.{call_path}
use Rattle.stripe_table.specs.Ends.{AllFit}
use Rattle.stripe_table.specs.Limits.{Chunks}
use Rattle.thread_cct.specs.Plan.{IsMergeable}
use Rattle.run_profile.specs.Attribution.{attributed}
use Rattle.run_profile.specs.Merging.{merging}
use Rattle.run_profile.specs.Merging.{CrewMerges}
use Rattle.run_profile.proofs.Products.{crew_is, plan_columns, refused_of}
use Rattle.run_profile.proofs.merged.crew_of.Goals as goal

pub returns-in_err-plan-clause-merged : goal.returns-in_err-plan-clause-merged
returns-in_err-plan-clause-merged g c samples are own =
    let p = err_from_is_err_and c.from_residual.result c.from_residual.ensures.1 in
    rw (p.1, p.2) (refused_of c.args.merge.now.events.now c.args.merge.now.runs.now c.args.ccts.now samples (are ∙ ap (λ (n : ℕ). distinct n samples) c.requires.columns) c.of-expander.result c.args.finder.now c.of-expander.ensures _ c.in_err-plan.ensures.answer)

pub returns-clause-columns : goal.returns-clause-columns
returns-clause-columns g c =
    c.columns-columns.ensures.columns ∙ plan_columns (call_path (found_at c.of-expander.result)) c.args.ccts.now c.in_ok-plan.plan c.in_ok-plan.ensures.answer

pub returns-clause-held : goal.returns-clause-held
returns-clause-held g c =
    c.stripes_hold_their_pieces.ensures.joinable c.in_ok-crew.crew.stripes c.columns-columns.result
    (subst (λ (chunks : Chunks). AllFit chunks c.in_ok-crew.crew.stripes.stripes) (sym c.in_ok-crew.ensures.plan.plan) c.in_ok-crew.ensures.plan.fit)
    (subst (λ (chunks : Chunks). IsMergeable chunks c.columns-columns.result) (sym c.in_ok-crew.ensures.plan.plan)
    (c.plans_can_be_merged.ensures c.in_ok-plan.plan (call_path (found_at c.of-expander.result)) c.columns-columns.result c.columns-columns.ensures.counted c.columns-columns.ensures.below (c.call_paths_have_roots.ensures (found_at c.of-expander.result))))

pub returns-clause-merged : goal.returns-clause-merged
returns-clause-merged g c samples are own =
    let program : ProgramScopes = c.of-expander.result in
    let by = merging (g.C.Crews.gives c.args.merge.now.crews.now) (g.C.Crews.whole c.args.merge.now.crews.now) c.args.merge.now.workers in
    let columns : length c.args.ccts.now ≡ columns_of (length c.args.merge.now.events.now) c.args.merge.now.runs.now = c.requires.columns in
    subst (λ (q : ProgramScopes). CrewMerges by (Ok (c.in_ok-crew.crew, c.columns-columns.result)) (attributed q c.args.merge.now.events.now c.args.merge.now.runs.now samples)) c.of-expander.ensures
    (crew_is by program c.args.merge.now.events.now c.args.merge.now.runs.now c.args.ccts.now samples (are ∙ ap (λ (n : ℕ). distinct n samples) columns) c.stripes_hold_the_samples.ensures.samples
    (subst (λ (n : ℕ). All (λ (s : ColumnRaw). s.column < n) samples) columns own) c.in_ok-plan.plan c.in_ok-crew.crew c.columns-columns.result c.in_ok-plan.ensures.answer c.in_ok-crew.ensures.gives c.in_ok-crew.ensures.plan c.in_ok-crew.ensures.whole)
