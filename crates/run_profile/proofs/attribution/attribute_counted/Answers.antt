use Rattle.std.proofs.Common.{Ok, ap, ◌∙◌}
use Rattle.std.proofs.lemmas.Result.{err_from_is_err_and}
use Rattle.run_profile.specs.Attribution.{Attributed, attributed, attribution_of}
use Rattle.run_profile.specs.Merging.{merging}
use Rattle.run_profile.specs.EventTexts.{lines_of_events}
use Rattle.command_line.proofs.Faults.{fails_next}
use Rattle.run_profile.proofs.Products.{attributed_as, attribution_is, text_with}
use Rattle.run_profile.proofs.attribution.attribute_counted.Goals as goal

pub returns-in_err-content : goal.returns-in_err-content
returns-in_err-content g c samples are own all =
    let p = err_from_is_err_and c.from_residual-in_err-content.result c.from_residual-in_err-content.ensures.1 in
    rw (p.1, p.2) (fails_next (λ a. Ok (attribution_of a)) _ (attributed c.args.finder.now c.args.merge.now.events.now c.args.merge.now.runs.now samples) (c.in_err-content.ensures.merged samples are own))

pub returns : goal.returns
returns g c samples are own all =
    attribution_is (merging (g.C.Crews.gives c.args.merge.now.crews.now) (g.C.Crews.whole c.args.merge.now.crews.now) c.args.merge.now.workers) c.event_content_holds_its_paths.ensures.alike c.counts_decide.ensures.table c.event_paths_are_paths.ensures.alike
    (attributed c.args.finder.now c.args.merge.now.events.now c.args.merge.now.runs.now samples) c.args.merge.now.events.now samples c.in_ok-content.field-0 (record { stored = c.in_ok-stored.stored; text = c.in_ok-stored.text }) (c.in_ok-content.ensures.merged samples are own)
    (λ a is. (let same = attributed_as c.args.finder.now c.args.merge.now.events.now c.args.merge.now.runs.now samples a is in (ap (λ (q : Attributed). q.events) same, ap (λ (q : Attributed). q.samples) same))) c.requires.whole c.in_ok-stored.ensures.0
    (text_with c.in_ok-content.field-0.content c.in_ok-stored.text c.no_text.result c.as_slice.result.now (lines_of_events c.args.merge.now.events.now samples) c.in_ok-stored.ensures.1 c.no_text.ensures (c.as_slice.ensures.value ∙ c.in_ok-lines.ensures.lines samples are all))
