use Rattle.std.proofs.Common.{Ok, sym, subst}
use Rattle.scope_find.specs.Found.{ProgramScopes}
use Rattle.merge_crew.specs.declared.merge.Crew.{Crew}
use Rattle.run_profile.specs.Attribution.{attributed}
use Rattle.run_profile.specs.Merging.{merging}
use Rattle.run_profile.specs.Merging.{CrewMerges, Merges}
use Rattle.run_profile.proofs.Products.{merge_is}
use Rattle.run_profile.proofs.merged.merged_by.Goals as goal

pub returns-clause-merged : goal.returns-clause-merged
returns-clause-merged g c samples merged =
    let by = merging (g.C.Crews.gives c.args.merge.now.crews.now) (g.C.Crews.whole c.args.merge.now.crews.now) c.args.merge.now.workers in
    let events = c.args.merge.now.events.now in
    let runs = c.args.merge.now.runs.now in
    let own = subst (λ (q : ProgramScopes). CrewMerges by (Ok (c.args.crew, c.args.columns)) (attributed q events runs samples)) (sym c.of-expander.ensures) merged in
    let is = merge_is by c.of-expander.result events runs samples c.args.crew c.args.columns c.in_ok-content.content own c.in_ok-content.ensures.content c.in_ok-content.ensures.tables in
    subst (λ (crew : Crew). Merges by (Ok (record { content = c.in_ok-content.content; crew = crew })) (attributed c.args.finder.now events runs samples)) (sym c.of-done.ensures)
    (subst (λ (q : ProgramScopes). Merges by (Ok (record { content = c.in_ok-content.content; crew = c.args.crew })) (attributed q events runs samples)) c.of-expander.ensures is)
